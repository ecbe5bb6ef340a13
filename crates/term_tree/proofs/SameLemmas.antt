-- Terms that are equal as trees have the same values.
use Rattle.std.proofs.Common.{◌≡◌, ℕ, zero, suc, ◌<◌, ◌==◌, List, [], ◌∷◌, length, map, Bool, true, false, ◌&&◌, refl, ap, sym, ◌∙◌, subst, arith, inl, inr}
use Rattle.std.proofs.lemmas.Bool.{cases_lt}
use Rattle.std.proofs.lemmas.Int.{ints}
use Rattle.std.specs.Prelude.{slice_get, Option, Some, None, nat_lt, ℤ}
use Rattle.std.specs.List.{list_all}
use Rattle.std.specs.Ordering.{int_eq}
use Rattle.term_tree.specs.declared.sort.Sort.{Sort}
use Rattle.term_tree.specs.declared.sort.Sort.TheVariants.{Int as IntSort, Bool as BoolSort}
use Rattle.term_tree.specs.declared.node.TermId.{TermId}
use Rattle.term_tree.specs.declared.node.OpKind.{OpKind}
use Rattle.term_tree.specs.declared.node.OpKind.TheVariants.{Not, And, Or, Xor, Implies, Eq, Distinct, Ite, Add, Mul, Sub, Abs, Div, Mod, Le, Lt, Ge, Gt}
use Rattle.term_tree.specs.declared.node.Node.{Node}
use Rattle.term_tree.specs.declared.node.Node.TheVariants.{Num, True, False, Var, LetVar, Pred, Op, Divisible, Let, Forall, Exists}
use Rattle.term_tree.specs.declared.scalar.Value.{Value}
use Rattle.term_tree.specs.declared.scalar.Value.TheVariants.{Int, Bool as Truth}
use Rattle.term_tree.specs.Arena.{IsArena, is_below}
use Rattle.term_tree.specs.Operators.{result_of, divides, integer, first_of_all}
use Rattle.term_tree.specs.Same.{same_sorts, same_op, parts_of, is_alike, same_parts, same_node, node_is_same, is_same_tree}
use Rattle.term_tree.specs.Sorts.{same_sort}
use Rattle.term_tree.specs.Value.{Environment, Worth, node_worth, value_of}
use Rattle.term_tree.specs.Truth.{Interpretation, Meaning, AreKnown, Determines, node_meaning, HasValue}
use Rattle.term_tree.proofs.EachLemmas.{all_below, same_at}
use Rattle.term_tree.proofs.FoldLemmas.{told_past}
use Rattle.term_tree.proofs.MeaningLemmas.{Both, both_true, below_from, for_all, for_some, has_value_at}
use Rattle.term_tree.proofs.PlainLemmas.{arena_below, eqb_self, same_number, there_is}
use Rattle.term_tree.proofs.ValueLemmas.{value_at}

false_not_true : false ≡ true → ⊥
false_not_true h = absurd (cc)

same_integer : (m n : ℤ) → int_eq m n ≡ true → m ≡ n
same_integer m n h = grind (arith, ints)

sort_is : (s t : Sort) → same_sort s t ≡ true → s ≡ t
sort_is IntSort IntSort h = refl
sort_is BoolSort BoolSort h = refl
sort_is _ _ h = absurd (cc)

pub sorts_are : (ss ts : List Sort) → same_sorts ss ts ≡ true → ss ≡ ts
sorts_are [] [] h = refl
sorts_are [] (t ∷ ts) h = absurd (cc)
sorts_are (s ∷ ss) [] h = absurd (cc)
sorts_are (s ∷ ss) (t ∷ ts) h =
    let both = both_true (same_sort s t) (same_sorts ss ts) h in
    ap (λ (x : Sort). x ∷ ss) (sort_is s t both.0) ∙ ap (λ (xs : List Sort). t ∷ xs) (sorts_are ss ts both.1)

pub op_is : (o r : OpKind) → same_op o r ≡ true → o ≡ r
op_is Not Not h = refl
op_is And And h = refl
op_is Or Or h = refl
op_is Xor Xor h = refl
op_is Implies Implies h = refl
op_is Eq Eq h = refl
op_is Distinct Distinct h = refl
op_is Ite Ite h = refl
op_is Add Add h = refl
op_is Mul Mul h = refl
op_is Sub Sub h = refl
op_is Abs Abs h = refl
op_is Div Div h = refl
op_is Mod Mod h = refl
op_is Le Le h = refl
op_is Lt Lt h = refl
op_is Ge Ge h = refl
op_is Gt Gt h = refl
op_is _ _ h = absurd (false_not_true h)

first_is : (v w : Value) (vs ws : List Value) → v ∷ vs ≡ w ∷ ws → v ≡ w
first_is v w vs ws e = cc

-- nodes that are alike, over parts of equal values
same_worth : (p q : ℕ → Worth) (m n : Node) (env : Environment) → is_alike m n ≡ true
    → map (λ (x : TermId). p x.0 env) (parts_of m) ≡ map (λ (x : TermId). q x.0 env) (parts_of n) → node_worth p m env ≡ node_worth q n env
same_worth p q (Num m) (Num n) env h e = ap Int (same_integer m n h)
same_worth p q True True env h e = refl
same_worth p q False False env h e = refl
same_worth p q (Var binder sort) (Var other type) env h e = ap env (same_number binder other (both_true (binder == other) (same_sort sort type) h).0)
same_worth p q (LetVar bound) (LetVar other) env h e = first_is (p bound.0 env) (q other.0 env) [] [] e
same_worth p q (Pred pred args) (Pred other ids) env h e = refl
same_worth p q (Op op args) (Op other ids) env h e =
    ap (λ (o : OpKind). result_of o (map (λ (x : TermId). p x.0 env) args)) (op_is op other h) ∙ ap (result_of other) e
same_worth p q (Divisible by arg) (Divisible other id) env h e =
    ap (λ (k : ℤ). Truth (divides k (integer (p arg.0 env)))) (same_integer by other h)
    ∙ ap (λ (v : Value). Truth (divides other (integer v))) (first_is (p arg.0 env) (q id.0 env) [] [] e)
same_worth p q (Let bound body) (Let ids id) env h e =
    first_is (p body.0 env) (q id.0 env) (map (λ (x : TermId). p x.0 env) bound) (map (λ (x : TermId). q x.0 env) ids) e
same_worth p q (Forall first sorts body) (Forall other types id) env h e = refl
same_worth p q (Exists first sorts body) (Exists other types id) env h e = refl
same_worth p q _ _ env h e = absurd (false_not_true h)

-- each of the terms gives what its partner gives
abbrev Give : (ℕ → Meaning) → (ℕ → Meaning) → List TermId → List TermId → Type 0
Give p q [] [] = Unit {0}
Give p q (x ∷ xs) (y ∷ ys) = ((env : Environment) (v : Value) → p x.0 env v → q y.0 env v) × Give p q xs ys
Give p q [] (y ∷ ys) = ⊥
Give p q (x ∷ xs) [] = ⊥

gives_known : (p q : ℕ → Meaning) (xs ys : List TermId) (env : Environment) (known : List (Option Value)) → Give p q xs ys → AreKnown p xs env known → AreKnown q ys env known
gives_known p q [] [] env [] give h = tt
gives_known p q [] [] env (k ∷ known) give h = absurd h
gives_known p q [] (y ∷ ys) env known give h = absurd give
gives_known p q (x ∷ xs) [] env known give h = absurd give
gives_known p q (x ∷ xs) (y ∷ ys) env [] give h = absurd h
gives_known p q (x ∷ xs) (y ∷ ys) env (None ∷ known) give h = gives_known p q xs ys env known give.1 h
gives_known p q (x ∷ xs) (y ∷ ys) env (Some v ∷ known) give h = (give.0 env v h.0, gives_known p q xs ys env known give.1 h.1)

gives_result : (p q : ℕ → Meaning) (xs ys : List TermId) (result : List Value → Value) (env : Environment) (v : Value) → Give p q xs ys
    → Determines p xs result env v → Determines q ys result env v
gives_result p q xs ys result env v give h = (h.0, gives_known p q xs ys env h.0 give h.1, h.2)

-- what alike nodes mean, where each part gives what its partner gives
gives_node : (I : Interpretation) (p q : ℕ → Meaning) (m n : Node) (env : Environment) (v : Value) → is_alike m n ≡ true → Give p q (parts_of m) (parts_of n)
    → node_meaning I p m env v → node_meaning I q n env v
gives_node I p q (Num m) (Num n) env v h give k = k ∙ ap Int (same_integer m n h)
gives_node I p q True True env v h give k = k
gives_node I p q False False env v h give k = k
gives_node I p q (Var binder sort) (Var other type) env v h give k = k ∙ ap env (same_number binder other (both_true (binder == other) (same_sort sort type) h).0)
gives_node I p q (LetVar bound) (LetVar other) env v h give k = give.0 env v k
gives_node I p q (Pred pred args) (Pred other ids) env v h give k =
    subst (λ (i : ℕ). Determines q ids (I i) env v) (same_number pred other h) (gives_result p q args ids (I pred) env v give k)
gives_node I p q (Op op args) (Op other ids) env v h give k =
    subst (λ (o : OpKind). Determines q ids (result_of o) env v) (op_is op other h) (gives_result p q args ids (result_of op) env v give k)
gives_node I p q (Divisible by arg) (Divisible other id) env v h give k =
    subst (λ (d : ℤ). Determines q (id ∷ []) (λ values. Truth (divides d (first_of_all (map integer values)))) env v) (same_integer by other h)
    (gives_result p q (arg ∷ []) (id ∷ []) (λ values. Truth (divides by (first_of_all (map integer values)))) env v give k)
gives_node I p q (Let bound body) (Let ids id) env v h give k = give.0 env v k
gives_node I p q (Forall first sorts body) (Forall other types id) env v h give k =
    let both = both_true (first == other) (same_sorts sorts types) h in
    subst (λ (i : ℕ). node_meaning I q (Forall i types id) env v) (same_number first other both.0)
    (subst (λ (ts : List Sort). node_meaning I q (Forall first ts id) env v) (sorts_are sorts types both.1) (for_all (p body.0) (q id.0) first sorts env v give.0 k))
gives_node I p q (Exists first sorts body) (Exists other types id) env v h give k =
    let both = both_true (first == other) (same_sorts sorts types) h in
    subst (λ (i : ℕ). node_meaning I q (Exists i types id) env v) (same_number first other both.0)
    (subst (λ (ts : List Sort). node_meaning I q (Exists first ts id) env v) (sorts_are sorts types both.1) (for_some (p body.0) (q id.0) first sorts env v give.0 k))
gives_node I p q _ _ env v h give k = absurd (false_not_true h)

own_integer : (n : ℤ) → int_eq n n ≡ true
own_integer n = grind (arith, ints)

own_sort : (s : Sort) → same_sort s s ≡ true
own_sort IntSort = refl
own_sort BoolSort = refl

pub own_sorts : (ss : List Sort) → same_sorts ss ss ≡ true
own_sorts [] = refl
own_sorts (s ∷ ss) = ap (λ (b : Bool). b && same_sorts ss ss) (own_sort s) ∙ own_sorts ss

-- a test that tells equal lists of sorts
pub sorts_told : (b : Bool) (ss ts : List Sort) → (b ≡ true → ss ≡ ts) → (ss ≡ ts → b ≡ true) → b ≡ same_sorts ss ts
sorts_told true ss ts forth back = sym (subst (λ (xs : List Sort). same_sorts ss xs ≡ true) (forth refl) (own_sorts ss))
sorts_told false ss ts forth back = by_case (same_sorts ss ts) (λ h. back (sorts_are ss ts h))
  where
    by_case : (c : Bool) → (c ≡ true → false ≡ true) → false ≡ c
    by_case true h = h refl
    by_case false h = refl

pub own_op : (o : OpKind) → same_op o o ≡ true
own_op Not = refl
own_op And = refl
own_op Or = refl
own_op Xor = refl
own_op Implies = refl
own_op Eq = refl
own_op Distinct = refl
own_op Ite = refl
own_op Add = refl
own_op Mul = refl
own_op Sub = refl
own_op Abs = refl
own_op Div = refl
own_op Mod = refl
own_op Le = refl
own_op Lt = refl
own_op Ge = refl
own_op Gt = refl

and_true : (a b : Bool) → a ≡ true → b ≡ true → (a && b) ≡ true
and_true true b h k = k
and_true false b h k = absurd (cc)

binders_turn : (first other : ℕ) (ss ts : List Sort) → ((first == other) && same_sorts ss ts) ≡ true → ((other == first) && same_sorts ts ss) ≡ true
binders_turn first other ss ts h =
    let both = both_true (first == other) (same_sorts ss ts) h in
    and_true (other == first) (same_sorts ts ss) (subst (λ (k : ℕ). (k == first) ≡ true) (same_number first other both.0) (eqb_self first))
    (subst (λ (xs : List Sort). same_sorts xs ss ≡ true) (sorts_are ss ts both.1) (own_sorts ss))

-- alike goes both ways
alike_turns : (m n : Node) → is_alike m n ≡ true → is_alike n m ≡ true
alike_turns (Num m) (Num n) h = subst (λ (k : ℤ). int_eq k m ≡ true) (same_integer m n h) (own_integer m)
alike_turns True True h = refl
alike_turns False False h = refl
alike_turns (Var binder sort) (Var other type) h =
    let both = both_true (binder == other) (same_sort sort type) h in
    and_true (other == binder) (same_sort type sort) (subst (λ (k : ℕ). (k == binder) ≡ true) (same_number binder other both.0) (eqb_self binder))
    (subst (λ (s : Sort). same_sort s sort ≡ true) (sort_is sort type both.1) (own_sort sort))
alike_turns (LetVar bound) (LetVar other) h = refl
alike_turns (Pred pred args) (Pred other ids) h = subst (λ (k : ℕ). (k == pred) ≡ true) (same_number pred other h) (eqb_self pred)
alike_turns (Op op args) (Op other ids) h = subst (λ (o : OpKind). same_op o op ≡ true) (op_is op other h) (own_op op)
alike_turns (Divisible by arg) (Divisible other id) h = subst (λ (k : ℤ). int_eq k by ≡ true) (same_integer by other h) (own_integer by)
alike_turns (Let bound body) (Let ids id) h = refl
alike_turns (Forall first sorts body) (Forall other types id) h = binders_turn first other sorts types h
alike_turns (Exists first sorts body) (Exists other types id) h = binders_turn first other sorts types h
alike_turns _ _ h = absurd (false_not_true h)

-- two nodes of terms that are equal as trees
pub record AreSame (nodes others : List Node) (id other : ℕ) : Type 0 where
  pub node : Node
  pub partner : Node
  pub is : slice_get nodes id ≡ Some node
  pub at : slice_get others other ≡ Some partner
  pub alike : is_alike node partner ≡ true
  pub parts : same_parts (λ i j. is_same_tree nodes i others j) (parts_of node) (parts_of partner) ≡ true

pub are_same : (nodes others : List Node) (id other : ℕ) → IsArena nodes → is_same_tree nodes id others other ≡ true → AreSame nodes others id other
are_same nodes others id other arena h =
    let found = there_is nodes id within in
    by_partner found.0 found.1 (slice_get others other) refl (sym (same_at nodes others id other found.0 found.1 (arena_below nodes id found.0 arena found.1)) ∙ h)
  where
    true_not_false : true ≡ false → ⊥
    true_not_false e = absurd (cc)

    within : id < length nodes
    within = elim (cases_lt id (length nodes)) [
      | inl less ↦ less
      | inr past ↦ absurd (true_not_false (sym h ∙ ap (λ (f : ℕ → Bool). f other) (told_past (ℕ → Bool) (λ j. false) (node_is_same others) nodes id past)))
    ]

    by_partner : (node : Node) → slice_get nodes id ≡ Some node → (found : Option Node) → slice_get others other ≡ found
        → same_node (λ i. is_same_tree nodes i others) node found ≡ true → AreSame nodes others id other
    by_partner node is None at k = absurd (cc)
    by_partner node is (Some partner) at k =
        let both = both_true (is_alike node partner) (same_parts (λ i. is_same_tree nodes i others) (parts_of node) (parts_of partner)) k in
        record { node = node; partner = partner; is = is; at = at; alike = both.0; parts = both.1 }

values_same : (p q : ℕ → Worth) (same : ℕ → ℕ → Bool) (n : ℕ) (env : Environment) (xs ys : List TermId) → ((i j : ℕ) → i < n → same i j ≡ true → p i env ≡ q j env)
    → list_all (is_below n) xs ≡ true → same_parts same xs ys ≡ true → map (λ (x : TermId). p x.0 env) xs ≡ map (λ (x : TermId). q x.0 env) ys
values_same p q same n env [] [] each below h = refl
values_same p q same n env [] (y ∷ ys) each below h = absurd (cc)
values_same p q same n env (x ∷ xs) [] each below h = absurd (cc)
values_same p q same n env (x ∷ xs) (y ∷ ys) each below h =
    let lower = both_true (nat_lt x.0 n) (list_all (is_below n) xs) below in
    let both = both_true (same x.0 y.0) (same_parts same xs ys) h in
    ap (λ (v : Value). v ∷ map (λ (z : TermId). p z.0 env) xs) (each x.0 y.0 (below_from x.0 n lower.0) both.0)
    ∙ ap (λ (vs : List Value). q y.0 env ∷ vs) (values_same p q same n env xs ys each lower.1 both.1)

-- terms that have the same values
abbrev Mean : (ℕ → Meaning) → (ℕ → Meaning) → ℕ → ℕ → Type 0
Mean p q i j = (env : Environment) (v : Value) → Both (p i env v) (q j env v)

give_both : (p q : ℕ → Meaning) (same : ℕ → ℕ → Bool) (n : ℕ) (xs ys : List TermId) → ((i j : ℕ) → i < n → same i j ≡ true → Mean p q i j)
    → list_all (is_below n) xs ≡ true → same_parts same xs ys ≡ true → Give p q xs ys × Give q p ys xs
give_both p q same n [] [] each below h = (tt, tt)
give_both p q same n [] (y ∷ ys) each below h = absurd (cc)
give_both p q same n (x ∷ xs) [] each below h = absurd (cc)
give_both p q same n (x ∷ xs) (y ∷ ys) each below h =
    let lower = both_true (nat_lt x.0 n) (list_all (is_below n) xs) below in
    let both = both_true (same x.0 y.0) (same_parts same xs ys) h in
    let rest = give_both p q same n xs ys each lower.1 both.1 in
    let here = each x.0 y.0 (below_from x.0 n lower.0) both.0 in
    ((λ env v. (here env v).forth, rest.0), (λ env v. (here env v).back, rest.1))

module _ (nodes others : List Node) (arena : IsArena nodes) (other_arena : IsArena others) where
  value_below : (bound id other : ℕ) (env : Environment) → id < bound → is_same_tree nodes id others other ≡ true → value_of nodes id env ≡ value_of others other env
  value_below zero id other env less h = absurd (omega arith)
  value_below (suc bound) id other env less h =
      let s = are_same nodes others id other arena h in
      let below = arena_below nodes id s.node arena s.is in
      value_at nodes id s.node env s.is below
      ∙ same_worth (value_of nodes) (value_of others) s.node s.partner env s.alike
      (values_same (value_of nodes) (value_of others) (λ i j. is_same_tree nodes i others j) id env (parts_of s.node) (parts_of s.partner)
      (λ i j lt k. value_below bound i j env (omega arith) k) (all_below id s.node below) s.parts)
      ∙ sym (value_at others other s.partner env s.at (arena_below others other s.partner other_arena s.at))

  pub same_value : (id other : ℕ) (env : Environment) → is_same_tree nodes id others other ≡ true → value_of nodes id env ≡ value_of others other env
  same_value id other env h = value_below (suc id) id other env (omega arith) h

  meaning_below : (I : Interpretation) (bound id other : ℕ) → id < bound → is_same_tree nodes id others other ≡ true → Mean (HasValue I nodes) (HasValue I others) id other
  meaning_below I zero id other less h env v = absurd (omega arith)
  meaning_below I (suc bound) id other less h env v =
      let s = are_same nodes others id other arena h in
      let below = arena_below nodes id s.node arena s.is in
      let here = has_value_at I nodes id s.node env v s.is below in
      let there = has_value_at I others other s.partner env v s.at (arena_below others other s.partner other_arena s.at) in
      let give = give_both (HasValue I nodes) (HasValue I others) (λ i j. is_same_tree nodes i others j) id (parts_of s.node) (parts_of s.partner)
      (λ i j lt k. meaning_below I bound i j (omega arith) k) (all_below id s.node below) s.parts in
      record {
        forth = λ k. there.back (gives_node I (HasValue I nodes) (HasValue I others) s.node s.partner env v s.alike give.0 (here.forth k));
        back = λ k. here.back (gives_node I (HasValue I others) (HasValue I nodes) s.partner s.node env v (alike_turns s.node s.partner s.alike) give.1 (there.forth k));
      }

  pub same_meaning : (I : Interpretation) (id other : ℕ) (env : Environment) (v : Value) → is_same_tree nodes id others other ≡ true
      → Both (HasValue I nodes id env v) (HasValue I others other env v)
  same_meaning I id other env v h = meaning_below I (suc id) id other (omega arith) h env v
