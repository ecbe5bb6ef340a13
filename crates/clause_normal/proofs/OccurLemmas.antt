-- Variables are numbered in the order of the text, so those that occur in a legal term, also in what its names stand for, are
-- below the number that follows it.
use Rattle.std.proofs.Common.{◌≡◌, ℕ, zero, suc, ◌+◌, ◌-◌, ◌<◌, ◌≤◌, ◌==◌, List, [], ◌∷◌, ◌++◌, length, Bool, true, false, ◌&&◌, ◌||◌, inl, inr, refl, ap, sym, ◌∙◌, subst, arith}
use Rattle.std.proofs.lemmas.Bool.{cases_lt, eqb-true}
use Rattle.std.proofs.lemmas.Bool.Decides.{nat_tests}
use Rattle.std.proofs.lemmas.List.Folds.{list_any-append}
use Rattle.std.specs.Prelude.{slice_get, Option, Some, None, nat_lt, ◌⊎◌, if◌then◌else◌}
use Rattle.std.specs.List.{list_all}
use Rattle.term_tree.specs.declared.sort.Sort.{Sort}
use Rattle.term_tree.specs.declared.node.TermId.{TermId}
use Rattle.term_tree.specs.declared.node.Node.{Node}
use Rattle.term_tree.specs.declared.node.Node.TheVariants.{Num, True, False, Var, LetVar, Pred, Op, Divisible, Let, Forall, Exists}
use Rattle.term_tree.specs.Arena.{IsArena, is_below, has_parts_below}
use Rattle.term_tree.specs.Legal.{NamesInScope, carried, has_some, is_scoped, next_variable, node_is_scoped, node_numbers, numbers_through, parameters, with_bound, with_variables}
use Rattle.term_tree.specs.Subterms.{IsSubterm, inside, is_among, is_part, itself}
use Rattle.term_tree.proofs.Public.{arena_below, below_from, both_true, numbered_at, scoped_at, there_is, told_past}
use Rattle.horn_shape.proofs.KnownLemmas.{carried_on, one_through}
use Rattle.horn_shape.proofs.ScopeLemmas.{sort_is}

-- a term is the subterm itself, or the subterm is one of a part of it
pub record Enters (nodes : List Node) (top low : ℕ) : Type 0 where
  pub node : Node
  pub part : ℕ
  pub is : slice_get nodes top ≡ Some node
  pub has : is_part part node ≡ true
  pub rest : IsSubterm nodes part low

pub from_top : (nodes : List Node) (top low : ℕ) → IsSubterm nodes top low → (top ≡ low) ⊎ Enters nodes top low
from_top nodes top _ itself = inl refl
from_top nodes top _ (inside {id = id} part node sub is has) = elim (from_top nodes top id sub) [
  | inl same ↦ inr (record { node = node; part = part; is = ap (slice_get nodes) same ∙ is; has = has; rest = itself })
  | inr e ↦ inr (record { node = e.node; part = e.part; is = e.is; has = e.has; rest = inside part node e.rest is has })
]

-- the variables that occur in the term are below the number
abbrev pub IsLow : List Node → ℕ → ℕ → Type 0
IsLow nodes m id = (low binder : ℕ) (sort : Sort) → IsSubterm nodes id low → slice_get nodes low ≡ Some (Var binder sort) → binder < m

low_more : (nodes : List Node) (n m id : ℕ) → n ≤ m → IsLow nodes n id → IsLow nodes m id
low_more nodes n m id less is low binder sort sub at = let small = is low binder sort sub at in omega (arith, less, small)

pub same_node : (a b : Node) → Some a ≡ Some b → a ≡ b
same_node a b e = cc

low_from : (nodes : List Node) (m id : ℕ) (node : Node) → slice_get nodes id ≡ Some node → ((binder : ℕ) (sort : Sort) → node ≡ Var binder sort → binder < m)
    → ((part : ℕ) → is_part part node ≡ true → IsLow nodes m part) → IsLow nodes m id
low_from nodes m id node is own parts low binder sort sub at = elim (from_top nodes id low sub) [
  | inl same ↦ own binder sort (same_node node (Var binder sort) (sym is ∙ ap (slice_get nodes) same ∙ at))
  | inr e ↦
      let one : e.node ≡ node = same_node e.node node (sym e.is ∙ is) in
      parts e.part (ap (is_part e.part) (sym one) ∙ e.has) low binder sort e.rest at
]

-- the variables in scope are below the number, and so are those in the terms that names stand for
pub record IsLowScope (nodes : List Node) (n : ℕ) (scope : NamesInScope) : Type 0 where
  pub low : (k : ℕ) (s : Sort) → scope.variables k ≡ Some s → k < n
  pub bound : (id : ℕ) → is_among id scope.bound ≡ true → IsLow nodes n id

scope_more : (nodes : List Node) (n m : ℕ) (scope : NamesInScope) → n ≤ m → IsLowScope nodes n scope → IsLowScope nodes m scope
scope_more nodes n m scope less is = record {
  low = λ k s h. let small = is.low k s h in omega (arith, less, small);
  bound = λ id h. low_more nodes n m id less (is.bound id h);
}

either_by : {A : Type 0} (a b : Bool) → (a || b) ≡ true → (a ≡ true → A) → (b ≡ true → A) → A
either_by true b h f g = f refl
either_by false b h f g = g h

scope_bound : (nodes : List Node) (n : ℕ) (scope : NamesInScope) (ids : List TermId) → IsLowScope nodes n scope → ((id : ℕ) → is_among id ids ≡ true → IsLow nodes n id) → IsLowScope nodes n (with_bound ids scope)
scope_bound nodes n scope ids is lows = record {
  low = is.low;
  bound = λ id h. either_by (is_among id ids) (is_among id scope.bound) (sym (list_any-append (λ (i : TermId). i.0 == id) ids scope.bound) ∙ h) (lows id) (is.bound id);
}

scope_variables : (nodes : List Node) (n : ℕ) (scope : NamesInScope) (sorts : List Sort) → IsLowScope nodes n scope → IsLowScope nodes (n + length sorts) (with_variables n sorts scope)
scope_variables nodes n scope sorts is = record {
  low = λ k s h. by_tests k s (nat_lt k n) (nat_lt (k - n) (length sorts)) refl refl h;
  bound = λ id h. low_more nodes n (n + length sorts) id (omega arith) (is.bound id h);
}
  where
    below_is : (a b : ℕ) → nat_lt a b ≡ true → a < b
    below_is a b e = grind (arith, nat_tests)

    variable : ℕ → Bool → Bool → Option Sort
    variable k a b = if a then scope.variables k else if b then slice_get sorts (k - n) else scope.variables k

    told : (k : ℕ) (s : Sort) (a b : Bool) → nat_lt k n ≡ a → nat_lt (k - n) (length sorts) ≡ b → variable k (nat_lt k n) (nat_lt (k - n) (length sorts)) ≡ Some s → variable k a b ≡ Some s
    told k s a b e f h = ap (λ (x : Bool). variable k a x) (sym f) ∙ ap (λ (x : Bool). variable k x (nat_lt (k - n) (length sorts))) (sym e) ∙ h

    by_tests : (k : ℕ) (s : Sort) (a b : Bool) → nat_lt k n ≡ a → nat_lt (k - n) (length sorts) ≡ b → variable k (nat_lt k n) (nat_lt (k - n) (length sorts)) ≡ Some s → k < n + length sorts
    by_tests k s true b e f h = omega (arith, below_is k n e)
    by_tests k s false true e f h = omega (arith, below_is (k - n) (length sorts) f)
    by_tests k s false false e f h = omega (arith, is.low k s (told k s false false e f h))

split_through : (f : ℕ → ℕ → Option ℕ) (ids more : List TermId) (n m : ℕ) → numbers_through f (ids ++ more) n ≡ Some m
    → (a : ℕ) × (numbers_through f ids n ≡ Some a) × (numbers_through f more a ≡ Some m)
split_through f [] more n m h = (n, refl, h)
split_through f (id ∷ ids) more n m h =
    let next = carried_on (λ k. numbers_through f (ids ++ more) k) (f id.0 n) m h in
    let rest = split_through f ids more next.0 m next.2 in
    (rest.0, ap (carried (λ k. numbers_through f ids k)) next.1 ∙ rest.1, rest.2)

numbered_from : (first n : ℕ) (x : Option ℕ) (m : ℕ) (b : Bool) → (first == n) ≡ b → (if first == n then x else None) ≡ Some m → (first ≡ n) × (x ≡ Some m)
numbered_from first n x m true e h = (eqb-true first n e, sym (ap (λ (b : Bool). if b then x else None) e) ∙ h)
numbered_from first n x m false e h = absurd (differ (sym (ap (λ (b : Bool). if b then x else None) e) ∙ h))
  where
    differ : None ≡ Some m → ⊥
    differ q = absurd (cc)

module _ (nodes : List Node) (arena : IsArena nodes) where
  abbrev Lows : ℕ → Type 0
  Lows bound = (k n m : ℕ) (scope : NamesInScope) → k < bound → IsLowScope nodes n scope → is_scoped nodes k scope ≡ true → next_variable nodes k n ≡ Some m → (n ≤ m) × IsLow nodes m k

  through : (id : ℕ) (ids : List TermId) (n m : ℕ) (scope : NamesInScope) → Lows id → list_all (is_below id) ids ≡ true → IsLowScope nodes n scope
      → list_all (λ a. is_scoped nodes a.0 scope) ids ≡ true → numbers_through (next_variable nodes) ids n ≡ Some m → (n ≤ m) × ((part : ℕ) → is_among part ids ≡ true → IsLow nodes m part)
  through id [] n m scope ih below is scoped h = let same : n ≡ m = cc in (omega (arith, same), λ part has. absurd (cc))
  through id (k ∷ ids) n m scope ih below is scoped h =
      let low = both_true (nat_lt k.0 id) (list_all (is_below id) ids) below in
      let inner = both_true (is_scoped nodes k.0 scope) (list_all (λ (a : TermId). is_scoped nodes a.0 scope) ids) scoped in
      let next = carried_on (λ j. numbers_through (next_variable nodes) ids j) (next_variable nodes k.0 n) m h in
      let one = ih k.0 n next.0 scope (below_from k.0 id low.0) is inner.0 next.1 in
      let rest = through id ids next.0 m scope ih low.1 (scope_more nodes n next.0 scope one.0 is) inner.1 next.2 in
      let first_less : n ≤ next.0 = one.0 in
      let rest_less : next.0 ≤ m = rest.0 in (
        omega (arith, first_less, rest_less),
        (λ part has. either_by (k.0 == part) (is_among part ids) has
            (λ e. subst (λ (j : ℕ). IsLow nodes m j) (eqb-true k.0 part e) (low_more nodes next.0 m k.0 rest_less one.1)) (λ e. rest.1 part e)),
      )

  low_node : (id n m : ℕ) (node : Node) (scope : NamesInScope) → Lows id → slice_get nodes id ≡ Some node → has_parts_below id node ≡ true → IsLowScope nodes n scope
      → node_is_scoped (is_scoped nodes) node scope ≡ true → node_numbers (next_variable nodes) node n ≡ Some m → (n ≤ m) × IsLow nodes m id
  low_node id n m (Num k) scope ih at below is scoped h = let same : n ≡ m = cc in (omega (arith, same), low_from nodes m id (Num k) at (λ b s e. absurd (cc)) (λ part has. absurd (cc)))
  low_node id n m True scope ih at below is scoped h = let same : n ≡ m = cc in (omega (arith, same), low_from nodes m id True at (λ b s e. absurd (cc)) (λ part has. absurd (cc)))
  low_node id n m False scope ih at below is scoped h = let same : n ≡ m = cc in (omega (arith, same), low_from nodes m id False at (λ b s e. absurd (cc)) (λ part has. absurd (cc)))
  low_node id n m (Var binder sort) scope ih at below is scoped h =
      let same : n ≡ m = cc in
      let small : binder < n = is.low binder sort (sort_is sort (scope.variables binder) scoped) in
      (omega (arith, same), low_from nodes m id (Var binder sort) at (λ b s e. let one : binder ≡ b = cc in omega (arith, one, small, same)) (λ part has. absurd (cc)))
  low_node id n m (LetVar bound) scope ih at below is scoped h =
      let same : n ≡ m = cc in (
        omega (arith, same),
        low_from nodes m id (LetVar bound) at (λ b s e. absurd (cc))
            (λ part has. subst (λ (j : ℕ). IsLow nodes m j) (eqb-true bound.0 part has) (low_more nodes n m bound.0 (omega (arith, same)) (is.bound bound.0 scoped))),
      )
  low_node id n m (Pred pred args) scope ih at below is scoped h =
      let all = through id args n m scope ih below is scoped h in (all.0, low_from nodes m id (Pred pred args) at (λ b s e. absurd (cc)) all.1)
  low_node id n m (Op op args) scope ih at below is scoped h =
      let all = through id args n m scope ih below is scoped h in (all.0, low_from nodes m id (Op op args) at (λ b s e. absurd (cc)) all.1)
  low_node id n m (Divisible by arg) scope ih at below is scoped h =
      let one = ih arg.0 n m scope (below_from arg.0 id below) is scoped h in
      (one.0, low_from nodes m id (Divisible by arg) at (λ b s e. absurd (cc)) (λ part has. subst (λ (j : ℕ). IsLow nodes m j) (eqb-true arg.0 part has) one.1))
  low_node id n m (Let bound body) scope ih at below is scoped h =
      let low = both_true (list_all (is_below id) bound) (nat_lt body.0 id) below in
      let inner = both_true (list_all (λ (a : TermId). is_scoped nodes a.0 scope) bound) (is_scoped nodes body.0 (with_bound bound scope))
      (both_true (has_some bound) (list_all (λ (a : TermId). is_scoped nodes a.0 scope) bound && is_scoped nodes body.0 (with_bound bound scope)) scoped).1 in
      let parts = split_through (next_variable nodes) bound (body ∷ []) n m h in
      let all = through id bound n parts.0 scope ih low.0 is inner.0 parts.1 in
      let one = ih body.0 parts.0 m (with_bound bound scope) (below_from body.0 id low.1)
      (scope_bound nodes parts.0 scope bound (scope_more nodes n parts.0 scope all.0 is) all.1) inner.1 (one_through (next_variable nodes) body parts.0 m parts.2) in
      let first_less : n ≤ parts.0 = all.0 in
      let rest_less : parts.0 ≤ m = one.0 in (
        omega (arith, first_less, rest_less),
        low_from nodes m id (Let bound body) at (λ b s e. absurd (cc))
            (λ part has. either_by (is_among part bound) (body.0 == part) has (λ e. low_more nodes parts.0 m part rest_less (all.1 part e))
            (λ e. subst (λ (j : ℕ). IsLow nodes m j) (eqb-true body.0 part e) one.1)),
      )
  low_node id n m (Forall first sorts body) scope ih at below is scoped h =
      let there = numbered_from first n (next_variable nodes body.0 (n + length sorts)) m (first == n) refl h in
      let inner = subst (λ (k : ℕ). is_scoped nodes body.0 (with_variables k sorts scope) ≡ true) there.0
      (both_true (has_some sorts) (is_scoped nodes body.0 (with_variables first sorts scope)) scoped).1 in
      let one = ih body.0 (n + length sorts) m (with_variables n sorts scope) (below_from body.0 id below) (scope_variables nodes n scope sorts is) inner there.1 in
      let less : n + length sorts ≤ m = one.0 in
      (omega (arith, less), low_from nodes m id (Forall first sorts body) at (λ b s e. absurd (cc)) (λ part has. subst (λ (j : ℕ). IsLow nodes m j) (eqb-true body.0 part has) one.1))
  low_node id n m (Exists first sorts body) scope ih at below is scoped h =
      let there = numbered_from first n (next_variable nodes body.0 (n + length sorts)) m (first == n) refl h in
      let inner = subst (λ (k : ℕ). is_scoped nodes body.0 (with_variables k sorts scope) ≡ true) there.0
      (both_true (has_some sorts) (is_scoped nodes body.0 (with_variables first sorts scope)) scoped).1 in
      let one = ih body.0 (n + length sorts) m (with_variables n sorts scope) (below_from body.0 id below) (scope_variables nodes n scope sorts is) inner there.1 in
      let less : n + length sorts ≤ m = one.0 in
      (omega (arith, less), low_from nodes m id (Exists first sorts body) at (λ b s e. absurd (cc)) (λ part has. subst (λ (j : ℕ). IsLow nodes m j) (eqb-true body.0 part has) one.1))

  scoped_there : (id : ℕ) (scope : NamesInScope) → is_scoped nodes id scope ≡ true → id < length nodes
  scoped_there id scope h = elim (cases_lt id (length nodes)) [
    | inl less ↦ less
    | inr past ↦
        let none = told_past (NamesInScope → Bool) (λ s. false) node_is_scoped nodes id past in
        absurd (differ (sym (ap (λ (f : NamesInScope → Bool). f scope) none) ∙ h))
  ]
    where
      differ : false ≡ true → ⊥
      differ e = absurd (cc)

  lows_below : (bound : ℕ) → Lows bound
  lows_below zero k n m scope less is scoped h = absurd (omega (arith, less))
  lows_below (suc bound) k n m scope less is scoped h =
      let found = there_is nodes k (scoped_there k scope scoped) in
      let below = arena_below nodes k found.0 arena found.1 in
      low_node k n m found.0 scope (λ j a b sc lt low inner e. lows_below bound j a b sc (omega (arith, lt, less)) low inner e) found.1 below is
      (sym (scoped_at nodes k found.0 scope found.1 below) ∙ scoped) (sym (numbered_at nodes k found.0 n found.1 below) ∙ h)

  -- a closed term, whose variables are numbered from 0 on
  pub closed_low : (id m : ℕ) → is_scoped nodes id (parameters []) ≡ true → next_variable nodes id 0 ≡ Some m → IsLow nodes m id
  closed_low id m scoped h = (lows_below (suc id) id 0 m (parameters []) (omega arith) (record { low = λ k s e. absurd (cc); bound = λ j has. absurd (cc) }) scoped h).1
