-- Well sorted terms without predicates and quantifiers have values of their sorts.
use Rattle.std.proofs.Common.{◌≡◌, ℕ, ◌<◌, List, [], ◌∷◌, length, Bool, true, false, refl, ap, sym, ◌∙◌, subst, map}
use Rattle.std.specs.Prelude.{Option, Some, None, ℤ, if◌then◌else◌}
use Rattle.std.specs.List.{list_all}
use Rattle.term_tree.specs.declared.sort.Sort.{Sort}
use Rattle.term_tree.specs.declared.sort.Sort.TheVariants.{Int as IntSort, Bool as BoolSort}
use Rattle.term_tree.specs.declared.script.Pred.{Pred as Declared}
use Rattle.term_tree.specs.declared.node.TermId.{TermId}
use Rattle.term_tree.specs.declared.node.Node.{Node}
use Rattle.term_tree.specs.declared.node.Node.TheVariants.{Num, True, False, Var, LetVar, Pred, Op, Divisible, Let, Forall, Exists}
use Rattle.term_tree.specs.declared.node.OpKind.TheVariants.{Not, And, Or, Xor, Implies, Eq, Distinct, Ite, Add, Mul, Sub, Abs, Div, Mod, Le, Lt, Ge, Gt}
use Rattle.term_tree.specs.declared.scalar.Value.{Value}
use Rattle.term_tree.specs.declared.scalar.Value.TheVariants.{Int, Bool as Truth}
use Rattle.term_tree.specs.Arena.{IsArena}
use Rattle.term_tree.specs.Operators.{result_of, choice_of, truth}
use Rattle.term_tree.specs.Sorts.{sort_if, choice_sort, operation_sort, has_sort, node_sort, sort_of, is_sorted}
use Rattle.term_tree.specs.Subterms.{is_among, is_part, is_plain, IsSubterm, IsPlain}
use Rattle.term_tree.specs.Truth.{HasSort}
use Rattle.term_tree.specs.Value.{Environment, Worth, node_worth, value_of}
use Rattle.term_tree.proofs.Public.{sort_at}
use Rattle.term_tree.proofs.Public.{eqb_self}
use Rattle.term_tree.proofs.Public.{value_at}
use Rattle.linear_terms.specs.Meeting.{IsTyped}
use Rattle.linear_terms.proofs.PartLemmas.{by_parts, first_among, later_among, body_among}

pub sort_if_is : (b : Bool) (t s : Sort) → sort_if b t ≡ Some s → (b ≡ true) × (t ≡ s)
sort_if_is true t s h = (refl, cc)
sort_if_is false t s h = absurd (cc)

-- the arguments of a choice: a condition and two branches of the choice's sort
pub record Choice (S : ℕ → Option Sort) (args : List TermId) (sort : Sort) : Type 0 where
  pub condition : TermId
  pub yes : TermId
  pub other : TermId
  pub are : args ≡ condition ∷ yes ∷ other ∷ []
  pub condition_sort : S condition.0 ≡ Some BoolSort
  pub yes_sort : S yes.0 ≡ Some sort
  pub other_sort : S other.0 ≡ Some sort

pub has_sort_is : (s : Sort) (t : Option Sort) → has_sort s t ≡ true → t ≡ Some s
has_sort_is IntSort None h = absurd (cc)
has_sort_is BoolSort None h = absurd (cc)
has_sort_is IntSort (Some IntSort) h = refl
has_sort_is IntSort (Some BoolSort) h = absurd (cc)
has_sort_is BoolSort (Some IntSort) h = absurd (cc)
has_sort_is BoolSort (Some BoolSort) h = refl

pub three_sorts : (a b t : Option Sort) (s : Sort) → choice_sort (a ∷ b ∷ t ∷ []) ≡ Some s → (a ≡ Some BoolSort) × (b ≡ Some s) × (t ≡ Some s)
three_sorts None b t s h = absurd (cc)
three_sorts (Some IntSort) b t s h = absurd (cc)
three_sorts (Some BoolSort) None t s h = absurd (cc)
three_sorts (Some BoolSort) (Some x) t s h =
    let both = sort_if_is (has_sort x t) x s h in
    (refl, ap (λ (y : Sort). Some y) both.1, has_sort_is x t both.0 ∙ ap (λ (y : Sort). Some y) both.1)

pub one_sort : (a : Option Sort) (s : Sort) → choice_sort (a ∷ []) ≡ Some s → ⊥
one_sort None s h = absurd (cc)
one_sort (Some IntSort) s h = absurd (cc)
one_sort (Some BoolSort) s h = absurd (cc)

pub two_sorts : (a b : Option Sort) (s : Sort) → choice_sort (a ∷ b ∷ []) ≡ Some s → ⊥
two_sorts None b s h = absurd (cc)
two_sorts (Some IntSort) b s h = absurd (cc)
two_sorts (Some BoolSort) None s h = absurd (cc)
two_sorts (Some BoolSort) (Some x) s h = absurd (cc)

pub four_sorts : (a b c d : Option Sort) (rest : List (Option Sort)) (s : Sort) → choice_sort (a ∷ b ∷ c ∷ d ∷ rest) ≡ Some s → ⊥
four_sorts None b c d rest s h = absurd (cc)
four_sorts (Some IntSort) b c d rest s h = absurd (cc)
four_sorts (Some BoolSort) None c d rest s h = absurd (cc)
four_sorts (Some BoolSort) (Some x) c d rest s h = absurd (cc)

pub choice_is : (S : ℕ → Option Sort) (args : List TermId) (s : Sort) → operation_sort Ite (map (λ (arg : TermId). S arg.0) args) ≡ Some s → Choice S args s
choice_is S [] s h = absurd (cc)
choice_is S (a ∷ []) s h = absurd (one_sort (S a.0) s h)
choice_is S (a ∷ b ∷ []) s h = absurd (two_sorts (S a.0) (S b.0) s h)
choice_is S (a ∷ b ∷ c ∷ []) s h =
    let all = three_sorts (S a.0) (S b.0) (S c.0) s h in
    record { condition = a; yes = b; other = c; are = refl; condition_sort = all.0; yes_sort = all.1; other_sort = all.2 }
choice_is S (a ∷ b ∷ c ∷ d ∷ rest) s h = absurd (four_sorts (S a.0) (S b.0) (S c.0) (S d.0) (map (λ (arg : TermId). S arg.0) rest) s h)

-- each of these has a value of its sort
abbrev pub AreSorted : (ℕ → Option Sort) → (ℕ → Value) → List TermId → Type 0
AreSorted S W args = (part : ℕ) → is_among part args ≡ true → (s : Sort) → S part ≡ Some s → HasSort s (W part)

truth_sort : (b x : Bool) (s : Sort) → sort_if b BoolSort ≡ Some s → HasSort s (Truth x)
truth_sort b x s h = subst (λ (t : Sort). HasSort t (Truth x)) (sort_if_is b BoolSort s h).1 tt

int_sort : (b : Bool) (n : ℤ) (s : Sort) → sort_if b IntSort ≡ Some s → HasSort s (Int n)
int_sort b n s h = subst (λ (t : Sort). HasSort t (Int n)) (sort_if_is b IntSort s h).1 tt

either_sort : (b : Bool) (v w : Value) (s : Sort) → HasSort s v → HasSort s w → HasSort s (if b then v else w)
either_sort true v w s hv hw = hv
either_sort false v w s hv hw = hw

chosen_sort : (S : ℕ → Option Sort) (W : ℕ → Value) (args : List TermId) (s : Sort) → AreSorted S W args → Choice S args s → HasSort s (choice_of (map (λ (arg : TermId). W arg.0) args))
chosen_sort S W args s sorted c =
    let a = c.condition in let b = c.yes in let d = c.other in
    let at : AreSorted S W (a ∷ b ∷ d ∷ []) = subst (AreSorted S W) c.are sorted in
    subst (λ (ids : List TermId). HasSort s (choice_of (map (λ (arg : TermId). W arg.0) ids))) (sym c.are)
    (either_sort (truth (W a.0)) (W b.0) (W d.0) s
    (at b.0 (later_among b.0 a (b ∷ d ∷ []) (first_among b (d ∷ []))) s c.yes_sort)
    (at d.0 (later_among d.0 a (b ∷ d ∷ []) (later_among d.0 b (d ∷ []) (first_among d []))) s c.other_sort))

result_sort : (S : ℕ → Option Sort) (W : ℕ → Value) (args : List TermId) (s : Sort) → AreSorted S W args → (op : _) → operation_sort op (map (λ (arg : TermId). S arg.0) args) ≡ Some s
    → HasSort s (result_of op (map (λ (arg : TermId). W arg.0) args))
result_sort S W args s sorted Not h = truth_sort _ _ s h
result_sort S W args s sorted And h = truth_sort _ _ s h
result_sort S W args s sorted Or h = truth_sort _ _ s h
result_sort S W args s sorted Xor h = truth_sort _ _ s h
result_sort S W args s sorted Implies h = truth_sort _ _ s h
result_sort S W args s sorted Eq h = truth_sort _ _ s h
result_sort S W args s sorted Distinct h = truth_sort _ _ s h
result_sort S W args s sorted Ite h = chosen_sort S W args s sorted (choice_is S args s h)
result_sort S W args s sorted Add h = int_sort _ _ s h
result_sort S W args s sorted Mul h = int_sort _ _ s h
result_sort S W args s sorted Sub h = int_sort _ _ s h
result_sort S W args s sorted Abs h = int_sort _ _ s h
result_sort S W args s sorted Div h = int_sort _ _ s h
result_sort S W args s sorted Mod h = int_sort _ _ s h
result_sort S W args s sorted Le h = truth_sort _ _ s h
result_sort S W args s sorted Lt h = truth_sort _ _ s h
result_sort S W args s sorted Ge h = truth_sort _ _ s h
result_sort S W args s sorted Gt h = truth_sort _ _ s h

pub let_sort : (b : Bool) (t : Option Sort) (s : Sort) → (if b then t else None) ≡ Some s → t ≡ Some s
let_sort true t s h = h
let_sort false t s h = absurd (cc)

node_has_sort : (preds : List Declared) (S : ℕ → Option Sort) (W : ℕ → Worth) (env : Environment) (node : Node) (s : Sort) → is_plain node ≡ true
    → ((binder : ℕ) (sort : Sort) → node ≡ Var binder sort → HasSort sort (env binder))
    → ((part : ℕ) → is_part part node ≡ true → (t : Sort) → S part ≡ Some t → HasSort t (W part env))
    → node_sort preds S node ≡ Some s → HasSort s (node_worth W node env)
node_has_sort preds S W env (Num n) s plain typed parts h = let e : IntSort ≡ s = cc in subst (λ (t : Sort). HasSort t (Int n)) e tt
node_has_sort preds S W env True s plain typed parts h = let e : BoolSort ≡ s = cc in subst (λ (t : Sort). HasSort t (Truth true)) e tt
node_has_sort preds S W env False s plain typed parts h = let e : BoolSort ≡ s = cc in subst (λ (t : Sort). HasSort t (Truth false)) e tt
node_has_sort preds S W env (Var binder sort) s plain typed parts h = let e : sort ≡ s = cc in subst (λ (t : Sort). HasSort t (env binder)) e (typed binder sort refl)
node_has_sort preds S W env (LetVar bound) s plain typed parts h = parts bound.0 (eqb_self bound.0) s h
node_has_sort preds S W env (Pred pred args) s plain typed parts h = absurd (cc)
node_has_sort preds S W env (Op op args) s plain typed parts h = result_sort S (λ part. W part env) args s parts op h
node_has_sort preds S W env (Divisible by arg) s plain typed parts h = truth_sort _ _ s h
node_has_sort preds S W env (Let bound body) s plain typed parts h =
    parts body.0 (body_among bound body) s (let_sort (list_all is_sorted (map (λ (b : TermId). S b.0) bound)) (S body.0) s h)
node_has_sort preds S W env (Forall first sorts body) s plain typed parts h = absurd (cc)
node_has_sort preds S W env (Exists first sorts body) s plain typed parts h = absurd (cc)

-- the value of a subterm has the subterm's sort
pub value_sort : (preds : List Declared) (nodes : List Node) → IsArena nodes → (top : ℕ) → IsPlain nodes top → (env : Environment) → IsTyped nodes top env
    → (id : ℕ) → id < length nodes → IsSubterm nodes top id → (s : Sort) → sort_of preds nodes id ≡ Some s → HasSort s (value_of nodes id env)
value_sort preds nodes arena top plain env typed =
    by_parts nodes arena top (λ id. (s : Sort) → sort_of preds nodes id ≡ Some s → HasSort s (value_of nodes id env))
    (λ id node sub is below parts s sorted.
    subst (HasSort s) (sym (value_at nodes id node env is below))
    (node_has_sort preds (sort_of preds nodes) (value_of nodes) env node s (plain id node sub is)
    (λ binder sort same. typed id binder sort sub (is ∙ ap (λ (m : Node). Some m) same))
    (λ part has t given. parts part has t given)
    (sym (sort_at preds nodes id node is below) ∙ sorted)))
