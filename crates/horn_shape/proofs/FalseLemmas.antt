-- A clause whose term is false has an instance that breaks it.
use Rattle.std.proofs.Common.{◌≡◌, ℕ, zero, suc, ◌+◌, ◌<◌, ◌==◌, List, [], ◌∷◌, ◌++◌, length, Bool, true, false, ◌&&◌, ◌||◌, refl, ap, sym, ◌∙◌, subst, arith, map}
use Rattle.std.proofs.lemmas.Option.{slice_get_within}
use Rattle.std.specs.Prelude.{slice_get, Option, Some, None, Ok, nat_lt, nat_le, not}
use Rattle.std.specs.List.{list_all, list_any}
use Rattle.term_tree.specs.declared.sort.Sort.{Sort}
use Rattle.term_tree.specs.declared.sort.Sort.TheVariants.{Bool as BoolSort}
use Rattle.term_tree.specs.declared.script.Pred.{Pred as Declared}
use Rattle.term_tree.specs.declared.node.TermId.{TermId}
use Rattle.term_tree.specs.declared.node.OpKind.TheVariants.{Not, Or, Implies}
use Rattle.term_tree.specs.declared.node.Node.{Node}
use Rattle.term_tree.specs.declared.node.Node.TheVariants.{Pred, Op, Let, Forall, Exists}
use Rattle.term_tree.specs.declared.scalar.Value.{Value}
use Rattle.term_tree.specs.declared.scalar.Value.TheVariants.{Int, Bool as Truth}
use Rattle.term_tree.specs.Arena.{IsArena, is_below}
use Rattle.term_tree.specs.Legal.{NamesInScope, with_variables, with_bound, has_some, is_scoped, numbers_through, next_variable}
use Rattle.term_tree.specs.Operators.{result_of, truth, implied}
use Rattle.term_tree.specs.Sorts.{has_sort, all_of, operation_sort, is_sorted, sort_of}
use Rattle.term_tree.specs.Truth.{Interpretation, Completes, AreKnown, HaveSorts, HoldsForAll, HoldsForSome, bound_from, HasValue}
use Rattle.term_tree.specs.Value.{Environment, value_of}
use Rattle.term_tree.proofs.LawLemmas.{one_value}
use Rattle.term_tree.proofs.Public.{arena_below, below_from, both_true, has_value_at, numbered_at, scoped_at, sort_at, there_is}
use Rattle.horn_shape.specs.declared.clause.AtomUse.{AtomUse}
use Rattle.horn_shape.specs.Plain.{is_plain_term}
use Rattle.horn_shape.specs.Shape.{Content, arguments, application_reading, head_of, guard_of, either_head, at, body_reading, implication, denial, clause_form, clause_reading}
use Rattle.horn_shape.specs.Content.{met, HeadHolds, StandAt}
use Rattle.horn_shape.specs.machinery.Gathering.{place_of}
use Rattle.horn_shape.proofs.BodyLemmas.{same_read, never_read, chosen_ok, both_ok, bound_ok, met_beside, tuple_is, body_is}
use Rattle.horn_shape.proofs.HoldsLemmas.{stand_split, quantified_ok}
use Rattle.horn_shape.proofs.KnownLemmas.{AreValued, carried_on, determined, keep_args, keep_then, one_through, valued_args, valued_plain}
use Rattle.horn_shape.proofs.ScopeLemmas.{AgreeBelow, IsScope, sort_is, sort_chosen, chosen_sort, plain_local, bound_scope, scope_with_variables}
use Rattle.horn_shape.proofs.SettledLemmas.{GivesTruth, tuple_same, settled}
use Rattle.horn_shape.proofs.SettledLemmas.{completion}
use Rattle.horn_shape.proofs.ShapeLemmas.{clause_plain, clause_mixed}
use Rattle.horn_shape.proofs.DisjunctLemmas.{clause_there}
use Rattle.horn_shape.proofs.UnbrokenLemmas.{agree_bound, disjuncts_are, join_sorts, long_sorts, same_first}

differ : {A : Type 0} → true ≡ false → A
differ e = absurd (cc)

-- values that break what a term gives, in each environment that has them from a number on and is the same below it
pub record Breaker (I : Interpretation) (nodes : List Node) (n : ℕ) (E : Environment) (c : Content) : Type 0 where
  pub values : List Value
  pub sorts : HaveSorts c.vars values
  pub body : (F : Environment) → AgreeBelow n E F → StandAt F n values → met I nodes F c ≡ true
  pub head : (F : Environment) → AgreeBelow n E F → StandAt F n values → HeadHolds I nodes F c.head → ⊥

-- no values break what has no variables
alone : (I : Interpretation) (nodes : List Node) (n : ℕ) (E : Environment) (c : Content) → c.vars ≡ [] → ((F : Environment) → AgreeBelow n E F → met I nodes F c ≡ true)
    → ((F : Environment) → AgreeBelow n E F → HeadHolds I nodes F c.head → ⊥) → Breaker I nodes n E c
alone I nodes n E c e f g = record { values = []; sorts = subst (λ (ss : List Sort). HaveSorts ss []) (sym e) tt; body = λ F agree stand. f F agree; head = λ F agree stand. g F agree }

false_at : (m : Environment → Value → Type 0) (first : ℕ) (sorts : List Sort) (E : Environment) (w : Value) → truth w ≡ false → HoldsForAll m first sorts E w
    → (values : List Value) × HaveSorts sorts values × m (bound_from first values E) (Truth false)
false_at m first sorts E (Int k) e h = absurd h
false_at m first sorts E (Truth true) e h = differ e
false_at m first sorts E (Truth false) e h = h

true_at : (m : Environment → Value → Type 0) (first : ℕ) (sorts : List Sort) (E : Environment) (w : Value) → truth w ≡ true → HoldsForSome m first sorts E w
    → (values : List Value) × HaveSorts sorts values × m (bound_from first values E) (Truth true)
true_at m first sorts E (Int k) e h = absurd h
true_at m first sorts E (Truth true) e h = h
true_at m first sorts E (Truth false) e h = differ (sym e)

module _ (I : Interpretation) (preds : List Declared) (nodes : List Node) (arena : IsArena nodes) (gives : GivesTruth preds I) where
  guard_breaks : (id : TermId) (lets : List TermId) (n : ℕ) (E : Environment) (scope : NamesInScope) (w : Value) → is_plain_term nodes id.0 ≡ true → IsScope preds nodes n E scope
      → is_scoped nodes id.0 scope ≡ true → HasValue I nodes id.0 E w → truth w ≡ false → Breaker I nodes n E (guard_of true (place_of id lets))
  guard_breaks id lets n E scope w plain is scoped has e =
      let known = ap truth (one_value I nodes id.0 E (value_of nodes id.0 E) w (valued_plain nodes arena I id.0 E plain) has) ∙ e in
      alone I nodes n E (guard_of true (place_of id lets)) refl
      (λ F agree. ap (λ (v : Value). (not (truth v) && true) && true) (sym (plain_local preds nodes arena id.0 n E scope is plain scoped E F agree)) ∙ ap (λ (b : Bool). (not b && true) && true) known)
      (λ F agree holds. holds)

  head_breaks : (id : TermId) (pred : ℕ) (args lets : List TermId) (c : Content) (n : ℕ) (E : Environment) (scope : NamesInScope) (w : Value) → slice_get nodes id.0 ≡ Some (Pred pred args)
      → application_reading (is_plain_term nodes) head_of pred args (place_of id lets) ≡ Ok c → IsScope preds nodes n E scope → is_scoped nodes id.0 scope ≡ true
      → HasValue I nodes id.0 E w → truth w ≡ false → Breaker I nodes n E c
  head_breaks id pred args lets c n E scope w node_is h is scoped has e =
      let below = arena_below nodes id.0 (Pred pred args) arena node_is in
      let atom : AtomUse = record { pred = pred; args = arguments lets args } in
      let fits = chosen_ok (list_all (λ a. is_plain_term nodes a.0) args) (head_of atom) id c h in
      let inner = sym (scoped_at nodes id.0 (Pred pred args) scope node_is below) ∙ scoped in
      let worth : List Value = map (λ a. value_of nodes a.0 E) args in
      let own = (has_value_at I nodes id.0 (Pred pred args) E (I pred worth) node_is below).back (determined (HasValue I nodes) args E worth (I pred) (valued_args nodes arena I args E fits.0)) in
      let known = ap truth (one_value I nodes id.0 E (I pred worth) w own has) ∙ e in
      subst (λ (x : Content). Breaker I nodes n E x) fits.1 (alone I nodes n E (head_of atom) refl (λ F agree. refl)
      (λ F agree holds. differ (sym (ap truth (ap (I pred) (tuple_is nodes E pred lets args ∙ sym (tuple_same I preds nodes arena n E scope pred args lets is fits.0 inner F agree)) ∙ holds)) ∙ known)))

  -- what is known of a clause of smaller number
  abbrev Breakers : ℕ → Type 0
  Breakers bound = (id : TermId) (lets : List TermId) (c : Content) (n m : ℕ) (E : Environment) (scope : NamesInScope) (w : Value) → id.0 < bound
      → clause_reading nodes id.0 (place_of id lets) ≡ Ok c → next_variable nodes id.0 n ≡ Some m → is_scoped nodes id.0 scope ≡ true → sort_of preds nodes id.0 ≡ Some BoolSort
      → IsScope preds nodes n E scope → HasValue I nodes id.0 E w → truth w ≡ false → Breaker I nodes n E c

  -- an implication that is false has a last part that is false, and none before it
  last_false : (id : TermId) (E : Environment) (known : List (Option Value)) → AreKnown (HasValue I nodes) (id ∷ []) E known
      → ((values : List Value) → Completes known values → false ≡ implied (map truth values)) → (w : Value) × HasValue I nodes id.0 E w × (truth w ≡ false)
  last_false id E [] h decides = absurd h
  last_false id E (None ∷ k ∷ known) h decides = absurd h
  last_false id E (Some w ∷ k ∷ known) h decides = absurd h.1
  last_false id E (None ∷ []) h decides = differ (sym (decides (Truth true ∷ []) tt))
  last_false id E (Some w ∷ []) h decides = (w, h.0, sym (decides (w ∷ []) (refl, tt)))

  agrees : (id : TermId) (ids : List TermId) (E : Environment) (v : Value) (k : Option Value) (known : List (Option Value)) (values : List Value) → HasValue I nodes id.0 E v
      → AreKnown (HasValue I nodes) (id ∷ ids) E (k ∷ known) → Completes known values → Completes (k ∷ known) (v ∷ values)
  agrees id ids E v None known values has are c = c
  agrees id ids E v (Some w) known values has are c = (one_value I nodes id.0 E v w has are.0, c)

  tail_known : (id : TermId) (ids : List TermId) (E : Environment) (k : Option Value) (known : List (Option Value)) → AreKnown (HasValue I nodes) (id ∷ ids) E (k ∷ known)
      → AreKnown (HasValue I nodes) ids E known
  tail_known id ids E None known h = h
  tail_known id ids E (Some w) known h = h.1

  -- with a false part before the last the implication would be true
  first_true : (a b : TermId) (ids : List TermId) (E : Environment) (v : Value) (known : List (Option Value)) → HasValue I nodes a.0 E v → AreKnown (HasValue I nodes) (a ∷ b ∷ ids) E known
      → ((values : List Value) → Completes known values → false ≡ implied (map truth values)) → truth v ≡ true
  first_true a b ids E v [] has are decides = absurd are
  first_true a b ids E v (k ∷ []) has are decides = absurd (tail_known a (b ∷ ids) E k [] are)
  first_true a b ids E v (k ∷ l ∷ known) has are decides =
      let whole = completion (l ∷ known) in by_rest whole.0 whole.1 (truth v) refl
    where
      by_rest : (values : List Value) → Completes (l ∷ known) values → (b : Bool) → truth v ≡ b → truth v ≡ true
      by_rest [] c t e = absurd (empty l c)
        where
          empty : (x : Option Value) → Completes (x ∷ known) [] → ⊥
          empty None h = h
          empty (Some w) h = h
      by_rest (u ∷ values) c true e = e
      by_rest (u ∷ values) c false e =
          differ (sym (decides (v ∷ u ∷ values) (agrees a (b ∷ ids) E v k (l ∷ known) (u ∷ values) has are c) ∙ ap (λ (x : Bool). not x || implied (map truth (u ∷ values))) e))

  rest_decides : (a b : TermId) (ids : List TermId) (E : Environment) (v : Value) (k : Option Value) (known : List (Option Value)) → HasValue I nodes a.0 E v → truth v ≡ true
      → AreKnown (HasValue I nodes) (a ∷ b ∷ ids) E (k ∷ known) → ((values : List Value) → Completes (k ∷ known) values → false ≡ implied (map truth values))
      → (values : List Value) → Completes known values → false ≡ implied (map truth values)
  rest_decides a b ids E v k [] has e are decides values c = absurd (tail_known a (b ∷ ids) E k [] are)
  rest_decides a b ids E v k (l ∷ known) has e are decides [] c = absurd (empty l c)
    where
      empty : (x : Option Value) → Completes (x ∷ known) [] → ⊥
      empty None h = h
      empty (Some w) h = h
  rest_decides a b ids E v k (l ∷ known) has e are decides (u ∷ values) c =
      decides (v ∷ u ∷ values) (agrees a (b ∷ ids) E v k (l ∷ known) (u ∷ values) has are c) ∙ ap (λ (x : Bool). not x || implied (map truth (u ∷ values))) e

  right_none : (F : Environment) (a b : Option AtomUse) → a ≡ None → (HeadHolds I nodes F b → ⊥) → HeadHolds I nodes F (either_head a b) → ⊥
  right_none F a None e g h = subst (λ (x : Option AtomUse). HeadHolds I nodes F x) e h
  right_none F a (Some b) e g h = g h

  implication_breaks : (bound : ℕ) (id : TermId) (lets ids : List TermId) (c : Content) (n m : ℕ) (E : Environment) (scope : NamesInScope) (known : List (Option Value)) → Breakers bound
      → list_all (is_below bound) ids ≡ true → implication (body_reading nodes) (clause_reading nodes) (place_of id lets) ids ≡ Ok c
      → numbers_through (next_variable nodes) ids n ≡ Some m → list_all (has_sort BoolSort) (map (λ a. sort_of preds nodes a.0) ids) ≡ true
      → list_all (λ a. is_scoped nodes a.0 scope) ids ≡ true → IsScope preds nodes n E scope → AreKnown (HasValue I nodes) ids E known
      → ((values : List Value) → Completes known values → false ≡ implied (map truth values)) → Breaker I nodes n E c
  implication_breaks bound id lets [] c n m E scope known ih below h numbers sorted scoped is are decides = never_read id c h
  implication_breaks bound id lets (last ∷ []) c n m E scope known ih below h numbers sorted scoped is are decides =
      let low = both_true (nat_lt last.0 bound) true below in
      let sort = both_true (has_sort BoolSort (sort_of preds nodes last.0)) true sorted in
      let inner = both_true (is_scoped nodes last.0 scope) true scoped in
      let w = last_false last E known are decides in
      ih last lets c n m E scope w.0 (below_from last.0 bound low.0) h (one_through (next_variable nodes) last n m numbers) inner.0 (sort_is BoolSort (sort_of preds nodes last.0) sort.0) is w.1 w.2
  implication_breaks bound id lets (a ∷ b ∷ ids) c n m E scope [] ih below h numbers sorted scoped is are decides = absurd are
  implication_breaks bound id lets (a ∷ b ∷ ids) c n m E scope (k ∷ known) ih below h numbers sorted scoped is are decides =
      let low = both_true (nat_lt a.0 bound) (list_all (is_below bound) (b ∷ ids)) below in
      let sort = both_true (has_sort BoolSort (sort_of preds nodes a.0)) (list_all (has_sort BoolSort) (map (λ (i : TermId). sort_of preds nodes i.0) (b ∷ ids))) sorted in
      let inner = both_true (is_scoped nodes a.0 scope) (list_all (λ (i : TermId). is_scoped nodes i.0 scope) (b ∷ ids)) scoped in
      let parts = both_ok (at (body_reading nodes) lets a) (implication (body_reading nodes) (clause_reading nodes) (place_of id lets) (b ∷ ids)) c h in
      let x = parts.0 in
      let y = parts.1 in
      let body = body_is I nodes arena a lets x E parts.2 in
      let s = settled I preds nodes arena gives a lets x n E scope parts.2 is inner.0 in
      let next = carried_on (λ j. numbers_through (next_variable nodes) (b ∷ ids) j) (next_variable nodes a.0 n) m numbers in
      let after : numbers_through (next_variable nodes) (b ∷ ids) n ≡ Some m =
      subst (λ (j : ℕ). numbers_through (next_variable nodes) (b ∷ ids) j ≡ Some m) (body.keeps n next.0 next.1) next.2 in
      let holds = first_true a b ids E body.value (k ∷ known) body.has are decides in
      let rest = implication_breaks bound id lets (b ∷ ids) y n m E scope known ih low.1 parts.3 after sort.1 inner.1 is (tail_known a (b ∷ ids) E k known are)
      (rest_decides a b ids E body.value k known body.has holds are decides) in
      subst (λ (z : Content). Breaker I nodes n E z) parts.4 (record {
        values = rest.values;
        sorts = subst (λ (ss : List Sort). HaveSorts (ss ++ y.vars) rest.values) (sym body.vars) rest.sorts;
        body = λ F agree stand. met_beside I nodes F x y ∙ ap (λ (t : Bool). t && met I nodes F y) (s.same F agree ∙ sym body.meets ∙ holds) ∙ rest.body F agree stand;
        head = λ F agree stand. right_none F x.head y.head body.head (rest.head F agree stand);
      })

  -- the variables of a quantifier come first
  over_quantifier : (sorts : List Sort) (x : Content) (n : ℕ) (E : Environment) (front : List Value) → HaveSorts sorts front → Breaker I nodes (n + length sorts) (bound_from n front E) x
      → Breaker I nodes n E (record { vars = sorts ++ x.vars; atoms = x.atoms; guards = x.guards; head = x.head })
  over_quantifier sorts x n E front have b = record {
    values = front ++ b.values;
    sorts = join_sorts sorts x.vars front b.values have b.sorts;
    body = λ F agree stand. b.body F (within F agree stand) (after F stand);
    head = λ F agree stand. b.head F (within F agree stand) (after F stand);
  }
    where
      both_stand : (F : Environment) → StandAt F n (front ++ b.values) → StandAt F n front × StandAt F (n + length sorts) b.values
      both_stand F stand = stand_split F n (n + length sorts) front b.values (omega (arith, long_sorts sorts front have)) stand

      after : (F : Environment) → StandAt F n (front ++ b.values) → StandAt F (n + length sorts) b.values
      after F stand = (both_stand F stand).1

      within : (F : Environment) → AgreeBelow n E F → StandAt F n (front ++ b.values) → AgreeBelow (n + length sorts) (bound_from n front E) F
      within F agree stand = agree_bound n (n + length sorts) E F front agree (both_stand F stand).0 (omega (arith, long_sorts sorts front have))

  body_breaks : (id : TermId) (lets : List TermId) (c : Content) (n : ℕ) (E : Environment) (scope : NamesInScope) (w : Value) → body_reading nodes id.0 (place_of id lets) ≡ Ok c
      → IsScope preds nodes n E scope → is_scoped nodes id.0 scope ≡ true → HasValue I nodes id.0 E w → truth w ≡ true → Breaker I nodes n E c
  body_breaks id lets c n E scope w h is scoped has e =
      let b = body_is I nodes arena id lets c E h in
      let s = settled I preds nodes arena gives id lets c n E scope h is scoped in
      alone I nodes n E c b.vars (λ F agree. s.same F agree ∙ sym b.meets ∙ ap truth (one_value I nodes id.0 E b.value w b.has has) ∙ e)
      (λ F agree holds. subst (λ (x : Option AtomUse). HeadHolds I nodes F x) b.head holds)

  denial_breaks : (id : TermId) (lets : List TermId) (node : Node) (c : Content) (n m : ℕ) (E : Environment) (scope : NamesInScope) (w : Value) → slice_get nodes id.0 ≡ Some node
      → denial nodes (Some node) (place_of id lets) ≡ Ok c → next_variable nodes id.0 n ≡ Some m → is_scoped nodes id.0 scope ≡ true
      → IsScope preds nodes n E scope → HasValue I nodes id.0 E w → truth w ≡ true → Breaker I nodes n E c
  denial_breaks id lets (Exists first sorts body) c n m E scope w node_is h numbers scoped is has e =
      let below = arena_below nodes id.0 (Exists first sorts body) arena node_is in
      let inner = quantified_ok sorts (at (body_reading nodes) lets body) c h in
      let x = inner.0 in
      let there = same_first I preds nodes arena gives first n (next_variable nodes body.0 (n + length sorts)) m (first == n) refl (sym (numbered_at nodes id.0 (Exists first sorts body) n node_is below) ∙ numbers) in
      let body_scoped = subst (λ (k : ℕ). is_scoped nodes body.0 (with_variables k sorts scope) ≡ true) there.0
      (both_true (has_some sorts) (is_scoped nodes body.0 (with_variables first sorts scope)) (sym (scoped_at nodes id.0 (Exists first sorts body) scope node_is below) ∙ scoped)).1 in
      let one = true_at (HasValue I nodes body.0) first sorts E w e ((has_value_at I nodes id.0 (Exists first sorts body) E w node_is below).forth has) in
      subst (λ (z : Content). Breaker I nodes n E z) inner.2
      (over_quantifier sorts x n E one.0 one.1 (body_breaks body lets x (n + length sorts) (bound_from n one.0 E) (with_variables n sorts scope) (Truth true) inner.1
      (scope_with_variables preds nodes n E scope sorts one.0 is one.1) body_scoped (subst (λ (k : ℕ). HasValue I nodes body.0 (bound_from k one.0 E) (Truth true)) there.0 one.2) refl))
  denial_breaks id lets _ c n m E scope w node_is h numbers scoped is has e = body_breaks id lets c n E scope w h is scoped has e

  sorted_parts : (args : List TermId) (s : Sort) → operation_sort Implies (map (λ a. sort_of preds nodes a.0) args) ≡ Some s → list_all (has_sort BoolSort) (map (λ a. sort_of preds nodes a.0) args) ≡ true
  sorted_parts args s e =
      let given : List (Option Sort) = map (λ (a : TermId). sort_of preds nodes a.0) args in
      (both_true (nat_le 2 (length given)) (list_all (has_sort BoolSort) given) (sort_chosen (all_of BoolSort 2 given) BoolSort s e).0).1

  from_not : (b : Bool) → not b ≡ false → b ≡ true
  from_not true e = refl
  from_not false e = differ e

  breaker_node : (id : TermId) (lets : List TermId) (node : Node) (c : Content) (n m : ℕ) (E : Environment) (scope : NamesInScope) (w : Value) → Breakers id.0 → slice_get nodes id.0 ≡ Some node
      → clause_form nodes (clause_reading nodes) node (place_of id lets) ≡ Ok c → next_variable nodes id.0 n ≡ Some m → is_scoped nodes id.0 scope ≡ true
      → sort_of preds nodes id.0 ≡ Some BoolSort → IsScope preds nodes n E scope → HasValue I nodes id.0 E w → truth w ≡ false → Breaker I nodes n E c
  breaker_node id lets (Pred pred args) c n m E scope w ih node_is h numbers scoped sorted is has e = head_breaks id pred args lets c n E scope w node_is h is scoped has e
  breaker_node id lets (Forall first sorts body) c n m E scope w ih node_is h numbers scoped sorted is has e =
      let below = arena_below nodes id.0 (Forall first sorts body) arena node_is in
      let inner = quantified_ok sorts (at (clause_reading nodes) lets body) c h in
      let x = inner.0 in
      let there = same_first I preds nodes arena gives first n (next_variable nodes body.0 (n + length sorts)) m (first == n) refl (sym (numbered_at nodes id.0 (Forall first sorts body) n node_is below) ∙ numbers) in
      let sort = sort_chosen (has_sort BoolSort (sort_of preds nodes body.0)) BoolSort BoolSort (sym (sort_at preds nodes id.0 (Forall first sorts body) node_is below) ∙ sorted) in
      let body_scoped = subst (λ (k : ℕ). is_scoped nodes body.0 (with_variables k sorts scope) ≡ true) there.0
      (both_true (has_some sorts) (is_scoped nodes body.0 (with_variables first sorts scope)) (sym (scoped_at nodes id.0 (Forall first sorts body) scope node_is below) ∙ scoped)).1 in
      let one = false_at (HasValue I nodes body.0) first sorts E w e ((has_value_at I nodes id.0 (Forall first sorts body) E w node_is below).forth has) in
      subst (λ (z : Content). Breaker I nodes n E z) inner.2
      (over_quantifier sorts x n E one.0 one.1 (ih body lets x (n + length sorts) m (bound_from n one.0 E) (with_variables n sorts scope) (Truth false) (below_from body.0 id.0 below) inner.1 there.1 body_scoped
      (sort_is BoolSort (sort_of preds nodes body.0) sort.0) (scope_with_variables preds nodes n E scope sorts one.0 is one.1)
      (subst (λ (k : ℕ). HasValue I nodes body.0 (bound_from k one.0 E) (Truth false)) there.0 one.2) refl))
  breaker_node id lets (Let binds body) c n m E scope w ih node_is h numbers scoped sorted is has e =
      let below = arena_below nodes id.0 (Let binds body) arena node_is in
      let low = both_true (list_all (is_below id.0) binds) (nat_lt body.0 id.0) below in
      let fits = bound_ok (is_plain_term nodes) binds (at (clause_reading nodes) (lets ++ id ∷ []) body) c h in
      let after = one_through (next_variable nodes) body n m
      (keep_then (next_variable nodes) binds (body ∷ []) n m (keep_args nodes arena binds fits.0) (sym (numbered_at nodes id.0 (Let binds body) n node_is below) ∙ numbers)) in
      let inner = both_true (list_all (λ (a : TermId). is_scoped nodes a.0 scope) binds) (is_scoped nodes body.0 (with_bound binds scope))
      (both_true (has_some binds) (list_all (λ (a : TermId). is_scoped nodes a.0 scope) binds && is_scoped nodes body.0 (with_bound binds scope))
      (sym (scoped_at nodes id.0 (Let binds body) scope node_is below) ∙ scoped)).1 in
      let sort = chosen_sort (list_all is_sorted (map (λ b. sort_of preds nodes b.0) binds)) (sort_of preds nodes body.0) BoolSort (sym (sort_at preds nodes id.0 (Let binds body) node_is below) ∙ sorted) in
      ih body (lets ++ id ∷ []) c n m E (with_bound binds scope) w (below_from body.0 id.0 low.1) fits.1 after inner.1 sort.1 (bound_scope preds nodes arena n E scope binds is fits.0 inner.0)
      ((has_value_at I nodes id.0 (Let binds body) E w node_is below).forth has) e
  breaker_node id lets (Op Implies args) c n m E scope w ih node_is h numbers scoped sorted is has e =
      let below = arena_below nodes id.0 (Op Implies args) arena node_is in
      let d = (has_value_at I nodes id.0 (Op Implies args) E w node_is below).forth has in
      implication_breaks id.0 id lets args c n m E scope d.0 ih below h (sym (numbered_at nodes id.0 (Op Implies args) n node_is below) ∙ numbers)
      (sorted_parts args BoolSort (sym (sort_at preds nodes id.0 (Op Implies args) node_is below) ∙ sorted)) (sym (scoped_at nodes id.0 (Op Implies args) scope node_is below) ∙ scoped) is d.1
      (λ values completes. sym e ∙ ap truth (d.2 values completes))
  breaker_node id lets (Op Or args) c n m E scope w ih node_is h numbers scoped sorted is has e =
      let below = arena_below nodes id.0 (Op Or args) arena node_is in
      let inner = sym (scoped_at nodes id.0 (Op Or args) scope node_is below) ∙ scoped in
      let first = disjuncts_are I preds nodes arena gives false lets args c n E E scope h is inner (λ k less. refl) in
      alone I nodes n E c first.4 (λ F agree. let d = disjuncts_are I preds nodes arena gives false lets args c n E F scope h is inner agree in d.2 (none_any id args E w d.0 node_is d.1 has e))
      (λ F agree. let d = disjuncts_are I preds nodes arena gives false lets args c n E F scope h is inner agree in d.3 (none_any id args E w d.0 node_is d.1 has e))
    where
      none_any : (id : TermId) (args : List TermId) (E : Environment) (w : Value) (vs : List Value) → slice_get nodes id.0 ≡ Some (Op Or args) → AreValued (HasValue I nodes) args E vs
          → HasValue I nodes id.0 E w → truth w ≡ false → list_any truth vs ≡ false
      none_any id args E w vs node_is are has e =
          let below = arena_below nodes id.0 (Op Or args) arena node_is in
          let own = (has_value_at I nodes id.0 (Op Or args) E (Truth (list_any truth vs)) node_is below).back (determined (HasValue I nodes) args E vs (result_of Or) are) in
          ap truth (one_value I nodes id.0 E (Truth (list_any truth vs)) w own has) ∙ e
  breaker_node id lets (Op Not (body ∷ [])) c n m E scope w ih node_is h numbers scoped sorted is has e =
      let below = arena_below nodes id.0 (Op Not (body ∷ [])) arena node_is in
      let low = both_true (nat_lt body.0 id.0) true below in
      let found = there_is nodes body.0 (omega (arith, below_from body.0 id.0 low.0, slice_get_within nodes id.0 (Op Not (body ∷ [])) node_is)) in
      let inner = both_true (is_scoped nodes body.0 scope) true (sym (scoped_at nodes id.0 (Op Not (body ∷ [])) scope node_is below) ∙ scoped) in
      let d = (has_value_at I nodes id.0 (Op Not (body ∷ [])) E w node_is below).forth has in
      let v = one_known d.0 d.1 (λ values completes. sym e ∙ ap truth (d.2 values completes)) in
      denial_breaks body lets found.0 c n m E scope v.0 found.1 (ap (λ (f : Option Node). denial nodes f (place_of body lets)) (sym found.1) ∙ h)
      (one_through (next_variable nodes) body n m (sym (numbered_at nodes id.0 (Op Not (body ∷ [])) n node_is below) ∙ numbers)) inner.0 is v.1 v.2
    where
      one_known : (known : List (Option Value)) → AreKnown (HasValue I nodes) (body ∷ []) E known → ((values : List Value) → Completes known values → false ≡ truth (result_of Not values))
          → (v : Value) × HasValue I nodes body.0 E v × (truth v ≡ true)
      one_known [] are decides = absurd are
      one_known (None ∷ k ∷ known) are decides = absurd are
      one_known (Some v ∷ k ∷ known) are decides = absurd are.1
      one_known (None ∷ []) are decides = differ (sym (decides (Truth false ∷ []) tt))
      one_known (Some v ∷ []) are decides = (v, are.0, from_not (truth v) (sym (decides (v ∷ []) (refl, tt))))
  breaker_node id lets _ c n m E scope w ih node_is h numbers scoped sorted is has e = absurd (cc)

  breaker_by : (p : Bool) (id : TermId) (lets : List TermId) (node : Node) (c : Content) (n m : ℕ) (E : Environment) (scope : NamesInScope) (w : Value) → is_plain_term nodes id.0 ≡ p → Breakers id.0
      → slice_get nodes id.0 ≡ Some node → clause_reading nodes id.0 (place_of id lets) ≡ Ok c → next_variable nodes id.0 n ≡ Some m → is_scoped nodes id.0 scope ≡ true
      → sort_of preds nodes id.0 ≡ Some BoolSort → IsScope preds nodes n E scope → HasValue I nodes id.0 E w → truth w ≡ false → Breaker I nodes n E c
  breaker_by true id lets node c n m E scope w plain ih node_is h numbers scoped sorted is has e =
      let below = arena_below nodes id.0 node arena node_is in
      let same : guard_of true (place_of id lets) ≡ c = same_read _ c (sym (clause_plain nodes id.0 node (place_of id lets) node_is below plain) ∙ h) in
      subst (λ (z : Content). Breaker I nodes n E z) same (guard_breaks id lets n E scope w plain is scoped has e)
  breaker_by false id lets node c n m E scope w plain ih node_is h numbers scoped sorted is has e =
      let below = arena_below nodes id.0 node arena node_is in
      breaker_node id lets node c n m E scope w ih node_is (sym (clause_mixed nodes id.0 node (place_of id lets) node_is below plain) ∙ h) numbers scoped sorted is has e

  breaker_below : (bound : ℕ) → Breakers bound
  breaker_below zero id lets c n m E scope w less h numbers scoped sorted is has e = absurd (omega (arith, less))
  breaker_below (suc bound) id lets c n m E scope w less h numbers scoped sorted is has e =
      let found = there_is nodes id.0 (clause_there I nodes arena id lets c h) in
      breaker_by (is_plain_term nodes id.0) id lets found.0 c n m E scope w refl (λ k ls x a b F sc u lt. breaker_below bound k ls x a b F sc u (omega (arith, lt, less))) found.1 h numbers scoped sorted is has e

  -- a clause that is false is broken by an instance
  pub breaker : (id : TermId) (lets : List TermId) (c : Content) (n m : ℕ) (E : Environment) (scope : NamesInScope) (w : Value) → clause_reading nodes id.0 (place_of id lets) ≡ Ok c
      → next_variable nodes id.0 n ≡ Some m → is_scoped nodes id.0 scope ≡ true → sort_of preds nodes id.0 ≡ Some BoolSort → IsScope preds nodes n E scope → HasValue I nodes id.0 E w
      → truth w ≡ false → Breaker I nodes n E c
  breaker id lets c n m E scope w h numbers scoped sorted is has e = breaker_below (suc id.0) id lets c n m E scope w (omega arith) h numbers scoped sorted is has e
