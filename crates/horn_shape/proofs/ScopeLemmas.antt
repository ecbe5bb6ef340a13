-- What a term without predicates and quantifiers is worth rests on the variables in scope alone, and has the term's sort.
use Rattle.std.proofs.Common.{◌≡◌, ℕ, zero, suc, ◌+◌, ◌-◌, ◌<◌, ◌==◌, List, [], ◌∷◌, ◌++◌, length, Bool, true, false, ◌&&◌, ◌||◌, refl, ap, sym, ◌∙◌, subst, arith, map}
use Rattle.std.proofs.lemmas.Bool.Decides.{nat_tests}
use Rattle.std.proofs.lemmas.List.Folds.{list_any-append}
use Rattle.std.specs.Prelude.{slice_get, slice_index_or, Option, Some, None, nat_lt, if◌then◌else◌}
use Rattle.std.specs.List.{list_all}
use Rattle.term_tree.specs.declared.sort.Sort.{Sort}
use Rattle.term_tree.specs.declared.sort.Sort.TheVariants.{Int as IntSort, Bool as BoolSort}
use Rattle.term_tree.specs.declared.script.Pred.{Pred as Declared}
use Rattle.term_tree.specs.declared.node.TermId.{TermId}
use Rattle.term_tree.specs.declared.node.OpKind.{OpKind}
use Rattle.term_tree.specs.declared.node.OpKind.TheVariants.{Not, And, Or, Xor, Implies, Eq, Distinct, Ite, Add, Mul, Sub, Abs, Div, Mod, Le, Lt, Ge, Gt}
use Rattle.term_tree.specs.declared.node.Node.{Node}
use Rattle.term_tree.specs.declared.node.Node.TheVariants.{Num, True, False, Var, LetVar, Pred, Op, Divisible, Let, Forall, Exists}
use Rattle.term_tree.specs.declared.scalar.Value.{Value}
use Rattle.term_tree.specs.declared.scalar.Value.TheVariants.{Int, Bool as Truth}
use Rattle.term_tree.specs.Arena.{IsArena, is_below, has_parts_below}
use Rattle.term_tree.specs.Legal.{NamesInScope, with_variables, with_bound, has_some, node_is_scoped, is_scoped}
use Rattle.term_tree.specs.Operators.{result_of, divides, integer, truth, choice_of}
use Rattle.term_tree.specs.Sorts.{same_sort, has_sort, is_sorted, sort_if, choice_sort, operation_sort, node_sort, sort_of}
use Rattle.term_tree.specs.Subterms.{is_among}
use Rattle.term_tree.specs.Truth.{HasSort, HaveSorts, bound_from}
use Rattle.term_tree.specs.Value.{Environment, node_worth, value_of}
use Rattle.term_tree.proofs.Public.{arena_below, below_from, both_true, scoped_at, sort_at, there_is, value_at}
use Rattle.horn_shape.specs.Plain.{node_is_plain, is_plain_term}
use Rattle.horn_shape.proofs.FlagLemmas.{plain_at}
use Rattle.horn_shape.proofs.KnownLemmas.{among_plain, plain_there}

-- the two give the variables below n the same values
abbrev pub AgreeBelow : ℕ → Environment → Environment → Type 0
AgreeBelow n E F = (k : ℕ) → k < n → E k ≡ F k

-- the value of the term rests on the variables below n
abbrev pub IsLocal : List Node → ℕ → ℕ → Type 0
IsLocal nodes n id = (E F : Environment) → AgreeBelow n E F → value_of nodes id E ≡ value_of nodes id F

-- a scope of variables below n and of terms that rest on them, whose values have their sorts
pub record IsScope (preds : List Declared) (nodes : List Node) (n : ℕ) (E : Environment) (scope : NamesInScope) : Type 0 where
  pub low : (k : ℕ) (s : Sort) → scope.variables k ≡ Some s → k < n
  pub local : (id : ℕ) → is_among id scope.bound ≡ true → IsLocal nodes n id
  pub sorted : (k : ℕ) (s : Sort) → scope.variables k ≡ Some s → HasSort s (E k)
  pub bound : (id : ℕ) (s : Sort) → is_among id scope.bound ≡ true → sort_of preds nodes id ≡ Some s → HasSort s (value_of nodes id E)

some_same : {X : Type 0} (a b : X) → Some a ≡ Some b → a ≡ b
some_same a b e = cc

pub sorts_same : (s t : Sort) → same_sort s t ≡ true → s ≡ t
sorts_same IntSort IntSort h = refl
sorts_same BoolSort BoolSort h = refl
sorts_same IntSort BoolSort h = absurd (cc)
sorts_same BoolSort IntSort h = absurd (cc)

pub sort_is : (s : Sort) (x : Option Sort) → has_sort s x ≡ true → x ≡ Some s
sort_is s None h = absurd (cc)
sort_is s (Some t) h = ap (λ (u : Sort). Some u) (sym (sorts_same s t h))

pub sort_chosen : (b : Bool) (s t : Sort) → sort_if b s ≡ Some t → (b ≡ true) × (s ≡ t)
sort_chosen true s t h = (refl, some_same s t h)
sort_chosen false s t h = absurd (cc)

either_of : {A : Type 0} (a b : Bool) → (a || b) ≡ true → (a ≡ true → A) → (b ≡ true → A) → A
either_of true b h f g = f refl
either_of false b h f g = g h

pub chosen_sort : (b : Bool) (x : Option Sort) (s : Sort) → (if b then x else None) ≡ Some s → (b ≡ true) × (x ≡ Some s)
chosen_sort true x s h = (refl, h)
chosen_sort false x s h = absurd (cc)

module _ (preds : List Declared) (nodes : List Node) where
  -- more terms are bound
  pub scope_with_bound : (n : ℕ) (E : Environment) (scope : NamesInScope) (ids : List TermId) → IsScope preds nodes n E scope
      → ((id : ℕ) → is_among id ids ≡ true → IsLocal nodes n id)
      → ((id : ℕ) (s : Sort) → is_among id ids ≡ true → sort_of preds nodes id ≡ Some s → HasSort s (value_of nodes id E))
      → IsScope preds nodes n E (with_bound ids scope)
  scope_with_bound n E scope ids is local bound = record {
    low = is.low;
    local = λ id h. either_of (is_among id ids) (is_among id scope.bound) (split id h) (local id) (is.local id);
    sorted = is.sorted;
    bound = λ id s h e. either_of (is_among id ids) (is_among id scope.bound) (split id h) (λ k. bound id s k e) (λ k. is.bound id s k e);
  }
    where
      split : (id : ℕ) → is_among id (ids ++ scope.bound) ≡ true → (is_among id ids || is_among id scope.bound) ≡ true
      split id h = sym (list_any-append (λ (i : TermId). i.0 == id) ids scope.bound) ∙ h

  pub get_sorted : (sorts : List Sort) (values : List Value) (k : ℕ) (s : Sort) (d : Value) → HaveSorts sorts values → slice_get sorts k ≡ Some s → HasSort s (slice_index_or values k d)
  get_sorted [] values k s d have h = absurd (cc)
  get_sorted (t ∷ sorts) [] k s d have h = absurd have
  get_sorted (t ∷ sorts) (v ∷ values) zero s d have h = subst (λ (u : Sort). HasSort u v) (some_same t s h) have.0
  get_sorted (t ∷ sorts) (v ∷ values) (suc k) s d have h = get_sorted sorts values k s d have.1 h

  -- the quantified variables come next
  pub scope_with_variables : (n : ℕ) (E : Environment) (scope : NamesInScope) (sorts : List Sort) (values : List Value) → IsScope preds nodes n E scope → HaveSorts sorts values
      → IsScope preds nodes (n + length sorts) (bound_from n values E) (with_variables n sorts scope)
  scope_with_variables n E scope sorts values is have = record {
    low = λ k s h. low_by k s (nat_lt k n) (nat_lt (k - n) (length sorts)) refl refl h;
    local = λ id h F G agree. is.local id h F G (λ k less. agree k (omega (arith, less)));
    sorted = λ k s h. sorted_by k s (nat_lt k n) (nat_lt (k - n) (length sorts)) refl refl h;
    bound = λ id s h e. subst (λ (v : Value). HasSort s v) (is.local id h E (bound_from n values E) same_below) (is.bound id s h e);
  }
    where
      same_below : AgreeBelow n E (bound_from n values E)
      same_below k less = ap (λ (b : Bool). if b then E k else slice_index_or values (k - n) (E k)) (sym (lt_is k n less))
        where
          lt_is : (a b : ℕ) → a < b → nat_lt a b ≡ true
          lt_is a b h = grind (arith, nat_tests)

      below_is : (a b : ℕ) → nat_lt a b ≡ true → a < b
      below_is a b e = grind (arith, nat_tests)

      variable : ℕ → Bool → Bool → Option Sort
      variable k a b = if a then scope.variables k else if b then slice_get sorts (k - n) else scope.variables k

      told : (k : ℕ) (s : Sort) (a b : Bool) → nat_lt k n ≡ a → nat_lt (k - n) (length sorts) ≡ b → variable k (nat_lt k n) (nat_lt (k - n) (length sorts)) ≡ Some s → variable k a b ≡ Some s
      told k s a b e f h = ap (λ (x : Bool). variable k a x) (sym f) ∙ ap (λ (x : Bool). variable k x (nat_lt (k - n) (length sorts))) (sym e) ∙ h

      low_by : (k : ℕ) (s : Sort) (a b : Bool) → nat_lt k n ≡ a → nat_lt (k - n) (length sorts) ≡ b → variable k (nat_lt k n) (nat_lt (k - n) (length sorts)) ≡ Some s → k < n + length sorts
      low_by k s true b e f h = omega (arith, below_is k n e)
      low_by k s false true e f h = omega (arith, below_is (k - n) (length sorts) f)
      low_by k s false false e f h = omega (arith, is.low k s (told k s false false e f h))

      worth : ℕ → Bool → Value
      worth k a = if a then E k else slice_index_or values (k - n) (E k)

      sorted_by : (k : ℕ) (s : Sort) (a b : Bool) → nat_lt k n ≡ a → nat_lt (k - n) (length sorts) ≡ b → variable k (nat_lt k n) (nat_lt (k - n) (length sorts)) ≡ Some s → HasSort s (worth k (nat_lt k n))
      sorted_by k s true b e f h = subst (λ (x : Bool). HasSort s (worth k x)) (sym e) (is.sorted k s (told k s true b e f h))
      sorted_by k s false true e f h = subst (λ (x : Bool). HasSort s (worth k x)) (sym e) (get_sorted sorts values (k - n) s (E k) have (told k s false true e f h))
      sorted_by k s false false e f h = absurd (past (is.low k s (told k s false false e f h)))
        where
          past : k < n → ⊥
          past less = differs (sym (lt_is k n less) ∙ e)
            where
              lt_is : (a b : ℕ) → a < b → nat_lt a b ≡ true
              lt_is a b h = grind (arith, nat_tests)

              differs : true ≡ false → ⊥
              differs q = absurd (cc)

  pub args_same : (n : ℕ) (ids : List TermId) (E F : Environment) → ((id : ℕ) → is_among id ids ≡ true → value_of nodes id E ≡ value_of nodes id F)
      → map (λ a. value_of nodes a.0 E) ids ≡ map (λ a. value_of nodes a.0 F) ids
  args_same n [] E F same = refl
  args_same n (id ∷ ids) E F same =
      ap (λ (v : Value). v ∷ map (λ (a : TermId). value_of nodes a.0 E) ids) (same id.0 (first id.0 (is_among id.0 ids)))
      ∙ ap (λ (vs : List Value). value_of nodes id.0 F ∷ vs) (args_same n ids E F (λ k h. same k (more id.0 k (is_among k ids) h)))
    where
      first : (k : ℕ) (b : Bool) → ((k == k) || b) ≡ true
      first k b = grind (arith, nat_tests)

      more : (i k : ℕ) (b : Bool) → b ≡ true → ((i == k) || b) ≡ true
      more i k b h = grind (arith, nat_tests)

  if_sorted : (b : Bool) (s : Sort) (v w : Value) → HasSort s v → HasSort s w → HasSort s (if b then v else w)
  if_sorted true s v w h k = h
  if_sorted false s v w h k = k

  three : (given : List (Option Sort)) (s : Sort) → choice_sort given ≡ Some s → length given ≡ 3
  three [] s h = absurd (cc)
  three (None ∷ given) s h = absurd (cc)
  three (Some IntSort ∷ given) s h = absurd (cc)
  three (Some BoolSort ∷ []) s h = absurd (cc)
  three (Some BoolSort ∷ None ∷ given) s h = absurd (cc)
  three (Some BoolSort ∷ Some t ∷ []) s h = absurd (cc)
  three (Some BoolSort ∷ Some t ∷ u ∷ []) s h = refl
  three (Some BoolSort ∷ Some t ∷ u ∷ w ∷ given) s h = absurd (cc)

  branches : (x y z : Option Sort) (s : Sort) → choice_sort (x ∷ y ∷ z ∷ []) ≡ Some s → (y ≡ Some s) × (z ≡ Some s)
  branches None y z s h = absurd (cc)
  branches (Some IntSort) y z s h = absurd (cc)
  branches (Some BoolSort) None z s h = absurd (cc)
  branches (Some BoolSort) (Some t) z s h =
      let chosen = sort_chosen (has_sort t z) t s h in (ap (λ (u : Sort). Some u) chosen.1, sort_is t z chosen.0 ∙ ap (λ (u : Sort). Some u) chosen.1)

  choice : (args : List TermId) (s : Sort) (E : Environment) → ((k : ℕ) (t : Sort) → is_among k args ≡ true → sort_of preds nodes k ≡ Some t → HasSort t (value_of nodes k E))
      → choice_sort (map (λ a. sort_of preds nodes a.0) args) ≡ Some s → HasSort s (choice_of (map (λ a. value_of nodes a.0 E) args))
  choice [] s E all h = absurd (cc)
  choice (a ∷ []) s E all h = absurd (omega (arith, three (sort_of preds nodes a.0 ∷ []) s h))
  choice (a ∷ b ∷ []) s E all h = absurd (omega (arith, three (sort_of preds nodes a.0 ∷ sort_of preds nodes b.0 ∷ []) s h))
  choice (a ∷ b ∷ c ∷ []) s E all h =
      let both = branches (sort_of preds nodes a.0) (sort_of preds nodes b.0) (sort_of preds nodes c.0) s h in
      if_sorted (truth (value_of nodes a.0 E)) s (value_of nodes b.0 E) (value_of nodes c.0 E) (all b.0 s (second a.0 b.0 c.0) both.0) (all c.0 s (third a.0 b.0 c.0) both.1)
    where
      second : (i j k : ℕ) → ((i == j) || ((j == j) || ((k == j) || false))) ≡ true
      second i j k = grind (arith, nat_tests)

      third : (i j k : ℕ) → ((i == k) || ((j == k) || ((k == k) || false))) ≡ true
      third i j k = grind (arith, nat_tests)
  choice (a ∷ b ∷ c ∷ d ∷ args) s E all h =
      absurd (omega (arith, three (sort_of preds nodes a.0 ∷ sort_of preds nodes b.0 ∷ sort_of preds nodes c.0 ∷ sort_of preds nodes d.0 ∷ map (λ (i : TermId). sort_of preds nodes i.0) args) s h))

  told_if : (b : Bool) (t s : Sort) (v : Value) → HasSort t v → sort_if b t ≡ Some s → HasSort s v
  told_if b t s v h e = subst (λ (u : Sort). HasSort u v) (sort_chosen b t s e).1 h

  -- what an operation gives has its sort
  operation : (op : OpKind) (args : List TermId) (s : Sort) (E : Environment) → ((k : ℕ) (t : Sort) → is_among k args ≡ true → sort_of preds nodes k ≡ Some t → HasSort t (value_of nodes k E))
      → operation_sort op (map (λ a. sort_of preds nodes a.0) args) ≡ Some s → HasSort s (result_of op (map (λ a. value_of nodes a.0 E) args))
  operation Not args s E all h = told_if _ BoolSort s _ tt h
  operation And args s E all h = told_if _ BoolSort s _ tt h
  operation Or args s E all h = told_if _ BoolSort s _ tt h
  operation Xor args s E all h = told_if _ BoolSort s _ tt h
  operation Implies args s E all h = told_if _ BoolSort s _ tt h
  operation Eq args s E all h = told_if _ BoolSort s _ tt h
  operation Distinct args s E all h = told_if _ BoolSort s _ tt h
  operation Le args s E all h = told_if _ BoolSort s _ tt h
  operation Lt args s E all h = told_if _ BoolSort s _ tt h
  operation Ge args s E all h = told_if _ BoolSort s _ tt h
  operation Gt args s E all h = told_if _ BoolSort s _ tt h
  operation Add args s E all h = told_if _ IntSort s _ tt h
  operation Mul args s E all h = told_if _ IntSort s _ tt h
  operation Sub args s E all h = told_if _ IntSort s _ tt h
  operation Abs args s E all h = told_if _ IntSort s _ tt h
  operation Div args s E all h = told_if _ IntSort s _ tt h
  operation Mod args s E all h = told_if _ IntSort s _ tt h
  operation Ite args s E all h = choice args s E all h

  module _ (arena : IsArena nodes) where
    -- what is shown of terms of smaller number
    abbrev Locals : ℕ → Type 0
    Locals bound = (k n : ℕ) (E : Environment) (scope : NamesInScope) → k < bound → IsScope preds nodes n E scope → is_plain_term nodes k ≡ true → is_scoped nodes k scope ≡ true
        → IsLocal nodes n k

    abbrev Sorteds : ℕ → Type 0
    Sorteds bound = (k n : ℕ) (E : Environment) (scope : NamesInScope) (s : Sort) → k < bound → IsScope preds nodes n E scope → is_plain_term nodes k ≡ true → is_scoped nodes k scope ≡ true
        → sort_of preds nodes k ≡ Some s → HasSort s (value_of nodes k E)

    each_local : (id n : ℕ) (E : Environment) (scope : NamesInScope) (ids : List TermId) → Locals id → IsScope preds nodes n E scope → list_all (is_below id) ids ≡ true
        → list_all (λ a. is_plain_term nodes a.0) ids ≡ true → list_all (λ a. is_scoped nodes a.0 scope) ids ≡ true → (k : ℕ) → is_among k ids ≡ true → IsLocal nodes n k
    each_local id n E scope ids ih is below plain scoped k h =
        ih k n E scope (below_from k id (among_plain (λ j. nat_lt j id) k ids below h)) is (among_plain (is_plain_term nodes) k ids plain h) (among_plain (λ j. is_scoped nodes j scope) k ids scoped h)

    each_sorted : (id n : ℕ) (E : Environment) (scope : NamesInScope) (ids : List TermId) → Sorteds id → IsScope preds nodes n E scope → list_all (is_below id) ids ≡ true
        → list_all (λ a. is_plain_term nodes a.0) ids ≡ true → list_all (λ a. is_scoped nodes a.0 scope) ids ≡ true → (k : ℕ) (s : Sort) → is_among k ids ≡ true
        → sort_of preds nodes k ≡ Some s → HasSort s (value_of nodes k E)
    each_sorted id n E scope ids ih is below plain scoped k s h e =
        ih k n E scope s (below_from k id (among_plain (λ j. nat_lt j id) k ids below h)) is (among_plain (is_plain_term nodes) k ids plain h) (among_plain (λ j. is_scoped nodes j scope) k ids scoped h) e

    local_node : (id n : ℕ) (E : Environment) (scope : NamesInScope) (node : Node) → Locals id → Sorteds id → has_parts_below id node ≡ true → IsScope preds nodes n E scope
        → node_is_plain (is_plain_term nodes) node ≡ true → node_is_scoped (is_scoped nodes) node scope ≡ true → (F G : Environment) → AgreeBelow n F G
        → node_worth (value_of nodes) node F ≡ node_worth (value_of nodes) node G
    local_node id n E scope (Num m) ih sh below is plain scoped F G agree = refl
    local_node id n E scope True ih sh below is plain scoped F G agree = refl
    local_node id n E scope False ih sh below is plain scoped F G agree = refl
    local_node id n E scope (Var binder sort) ih sh below is plain scoped F G agree = agree binder (is.low binder sort (sort_is sort (scope.variables binder) scoped))
    local_node id n E scope (LetVar bound) ih sh below is plain scoped F G agree = is.local bound.0 scoped F G agree
    local_node id n E scope (Pred pred args) ih sh below is plain scoped F G agree = absurd (cc)
    local_node id n E scope (Op op args) ih sh below is plain scoped F G agree =
        ap (result_of op) (args_same n args F G (λ k h. each_local id n E scope args ih is below plain scoped k h F G agree))
    local_node id n E scope (Divisible by arg) ih sh below is plain scoped F G agree =
        ap (λ (v : Value). Truth (divides by (integer v))) (ih arg.0 n E scope (below_from arg.0 id below) is plain scoped F G agree)
    local_node id n E scope (Let bound body) ih sh below is plain scoped F G agree =
        let low = both_true (list_all (is_below id) bound) (nat_lt body.0 id) below in
        let both = both_true (list_all (λ (a : TermId). is_plain_term nodes a.0) bound) (is_plain_term nodes body.0) plain in
        let inner = both_true (list_all (λ (a : TermId). is_scoped nodes a.0 scope) bound) (is_scoped nodes body.0 (with_bound bound scope))
        (both_true (has_some bound) (list_all (λ (a : TermId). is_scoped nodes a.0 scope) bound && is_scoped nodes body.0 (with_bound bound scope)) scoped).1 in
        ih body.0 n E (with_bound bound scope) (below_from body.0 id low.1)
        (scope_with_bound n E scope bound is (each_local id n E scope bound ih is low.0 both.0 inner.0) (each_sorted id n E scope bound sh is low.0 both.0 inner.0)) both.1 inner.1 F G agree
    local_node id n E scope (Forall first sorts body) ih sh below is plain scoped F G agree = absurd (cc)
    local_node id n E scope (Exists first sorts body) ih sh below is plain scoped F G agree = absurd (cc)

    sorted_node : (id n : ℕ) (E : Environment) (scope : NamesInScope) (node : Node) (s : Sort) → Locals id → Sorteds id → has_parts_below id node ≡ true → IsScope preds nodes n E scope
        → node_is_plain (is_plain_term nodes) node ≡ true → node_is_scoped (is_scoped nodes) node scope ≡ true → node_sort preds (sort_of preds nodes) node ≡ Some s
        → HasSort s (node_worth (value_of nodes) node E)
    sorted_node id n E scope (Num m) s ih sh below is plain scoped e = subst (λ (t : Sort). HasSort t (Int m)) (some_same IntSort s e) tt
    sorted_node id n E scope True s ih sh below is plain scoped e = subst (λ (t : Sort). HasSort t (Truth true)) (some_same BoolSort s e) tt
    sorted_node id n E scope False s ih sh below is plain scoped e = subst (λ (t : Sort). HasSort t (Truth false)) (some_same BoolSort s e) tt
    sorted_node id n E scope (Var binder sort) s ih sh below is plain scoped e = is.sorted binder s (sort_is sort (scope.variables binder) scoped ∙ e)
    sorted_node id n E scope (LetVar bound) s ih sh below is plain scoped e = is.bound bound.0 s scoped e
    sorted_node id n E scope (Pred pred args) s ih sh below is plain scoped e = absurd (cc)
    sorted_node id n E scope (Op op args) s ih sh below is plain scoped e = operation op args s E (λ k t h q. each_sorted id n E scope args sh is below plain scoped k t h q) e
    sorted_node id n E scope (Divisible by arg) s ih sh below is plain scoped e =
        subst (λ (t : Sort). HasSort t (node_worth (value_of nodes) (Divisible by arg) E)) (sort_chosen (has_sort IntSort (sort_of preds nodes arg.0)) BoolSort s e).1 tt
    sorted_node id n E scope (Let bound body) s ih sh below is plain scoped e =
        let low = both_true (list_all (is_below id) bound) (nat_lt body.0 id) below in
        let both = both_true (list_all (λ (a : TermId). is_plain_term nodes a.0) bound) (is_plain_term nodes body.0) plain in
        let inner = both_true (list_all (λ (a : TermId). is_scoped nodes a.0 scope) bound) (is_scoped nodes body.0 (with_bound bound scope))
        (both_true (has_some bound) (list_all (λ (a : TermId). is_scoped nodes a.0 scope) bound && is_scoped nodes body.0 (with_bound bound scope)) scoped).1 in
        sh body.0 n E (with_bound bound scope) s (below_from body.0 id low.1)
        (scope_with_bound n E scope bound is (each_local id n E scope bound ih is low.0 both.0 inner.0) (each_sorted id n E scope bound sh is low.0 both.0 inner.0)) both.1 inner.1
        (chosen_sort (list_all is_sorted (map (λ b. sort_of preds nodes b.0) bound)) (sort_of preds nodes body.0) s e).1
    sorted_node id n E scope (Forall first sorts body) s ih sh below is plain scoped e = absurd (cc)
    sorted_node id n E scope (Exists first sorts body) s ih sh below is plain scoped e = absurd (cc)

    lower : (bound k : ℕ) → k < suc bound → Locals bound × Sorteds bound → Locals k × Sorteds k
    lower bound k less both = (
      (λ j n E scope lt is plain scoped. both.0 j n E scope (omega (arith, lt, less)) is plain scoped),
      (λ j n E scope s lt is plain scoped e. both.1 j n E scope s (omega (arith, lt, less)) is plain scoped e),
    )

    one_more : (bound : ℕ) → Locals bound × Sorteds bound → Locals (suc bound) × Sorteds (suc bound)
    one_more bound both = (
      (λ k n E scope less is plain scoped F G agree.
          let found = there_is nodes k (plain_there nodes arena k plain) in
          let below = arena_below nodes k found.0 arena found.1 in
          let smaller = lower bound k less both in
          value_at nodes k found.0 F found.1 below
          ∙ local_node k n E scope found.0 smaller.0 smaller.1 below is (sym (plain_at nodes k found.0 found.1 below) ∙ plain)
          (sym (scoped_at nodes k found.0 scope found.1 below) ∙ scoped) F G agree ∙ sym (value_at nodes k found.0 G found.1 below)),
      (λ k n E scope s less is plain scoped e.
          let found = there_is nodes k (plain_there nodes arena k plain) in
          let below = arena_below nodes k found.0 arena found.1 in
          let smaller = lower bound k less both in
          subst (λ (v : Value). HasSort s v) (sym (value_at nodes k found.0 E found.1 below))
          (sorted_node k n E scope found.0 s smaller.0 smaller.1 below is (sym (plain_at nodes k found.0 found.1 below) ∙ plain)
          (sym (scoped_at nodes k found.0 scope found.1 below) ∙ scoped) (sym (sort_at preds nodes k found.0 found.1 below) ∙ e))),
    )

    both_below : (bound : ℕ) → Locals bound × Sorteds bound
    both_below zero = ((λ k n E scope less is plain scoped. absurd (omega (arith, less))), (λ k n E scope s less is plain scoped e. absurd (omega (arith, less))))
    both_below (suc bound) = one_more bound (both_below bound)

    -- its value rests on the variables in scope
    pub plain_local : (id n : ℕ) (E : Environment) (scope : NamesInScope) → IsScope preds nodes n E scope → is_plain_term nodes id ≡ true → is_scoped nodes id scope ≡ true → IsLocal nodes n id
    plain_local id n E scope is plain scoped = (both_below (suc id)).0 id n E scope (omega arith) is plain scoped

    -- its value has its sort
    pub plain_sorted : (id n : ℕ) (E : Environment) (scope : NamesInScope) (s : Sort) → IsScope preds nodes n E scope → is_plain_term nodes id ≡ true → is_scoped nodes id scope ≡ true
        → sort_of preds nodes id ≡ Some s → HasSort s (value_of nodes id E)
    plain_sorted id n E scope s is plain scoped e = (both_below (suc id)).1 id n E scope s (omega arith) is plain scoped e

    -- the terms that a `let` binds
    pub bound_scope : (n : ℕ) (E : Environment) (scope : NamesInScope) (ids : List TermId) → IsScope preds nodes n E scope → list_all (λ a. is_plain_term nodes a.0) ids ≡ true
        → list_all (λ a. is_scoped nodes a.0 scope) ids ≡ true → IsScope preds nodes n E (with_bound ids scope)
    bound_scope n E scope ids is plain scoped =
        scope_with_bound n E scope ids is
        (λ k h. plain_local k n E scope is (among_plain (is_plain_term nodes) k ids plain h) (among_plain (λ j. is_scoped nodes j scope) k ids scoped h))
        (λ k s h e. plain_sorted k n E scope s is (among_plain (is_plain_term nodes) k ids plain h) (among_plain (λ j. is_scoped nodes j scope) k ids scoped h) e)
