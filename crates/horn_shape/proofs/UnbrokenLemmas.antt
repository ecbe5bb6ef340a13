-- A clause that no instance breaks has its term true.
use Rattle.std.proofs.Common.{◌≡◌, ℕ, zero, suc, ◌+◌, ◌-◌, ◌<◌, ◌≤◌, ◌==◌, List, [], ◌∷◌, ◌++◌, length, Bool, true, false, ◌&&◌, ◌||◌, refl, ap, sym, ◌∙◌, subst, arith, map}
use Rattle.std.proofs.lemmas.Bool.Decides.{nat_tests}
use Rattle.std.proofs.lemmas.Option.{slice_get_within}
use Rattle.std.specs.Prelude.{slice_get, slice_index_or, Option, Some, None, Ok, Err, nat_lt, nat_le, not, if◌then◌else◌}
use Rattle.std.specs.List.{list_all, list_any}
use Rattle.term_tree.specs.declared.sort.Sort.{Sort}
use Rattle.term_tree.specs.declared.sort.Sort.TheVariants.{Bool as BoolSort}
use Rattle.term_tree.specs.declared.script.Pred.{Pred as Declared}
use Rattle.term_tree.specs.declared.node.TermId.{TermId}
use Rattle.term_tree.specs.declared.node.OpKind.TheVariants.{Not, Or, Implies}
use Rattle.term_tree.specs.declared.node.Node.{Node}
use Rattle.term_tree.specs.declared.node.Node.TheVariants.{Pred, Op, Let, Forall, Exists}
use Rattle.term_tree.specs.declared.scalar.Value.{Value}
use Rattle.term_tree.specs.declared.scalar.Value.TheVariants.{Int, Bool as Truth}
use Rattle.term_tree.specs.Arena.{IsArena, is_below}
use Rattle.term_tree.specs.Legal.{NamesInScope, with_variables, with_bound, has_some, is_scoped, numbers_through, next_variable}
use Rattle.term_tree.specs.Operators.{result_of, truth, implied}
use Rattle.term_tree.specs.Sorts.{has_sort, all_of, operation_sort, is_sorted, sort_of}
use Rattle.term_tree.specs.Truth.{Interpretation, Completes, AreKnown, Determines, HasSort, HaveSorts, bound_from, HasValue}
use Rattle.term_tree.specs.Value.{Environment, value_of}
use Rattle.term_tree.proofs.HeadLemmas.{nothing_known}
use Rattle.term_tree.proofs.Public.{arena_below, below_from, both_true, has_value_at, numbered_at, scoped_at, sort_at, there_is}
use Rattle.horn_shape.specs.declared.clause.AtomUse.{AtomUse}
use Rattle.horn_shape.specs.Plain.{is_plain_term}
use Rattle.horn_shape.specs.Shape.{Content, nothing, beside, both, arguments, application_reading, head_of, guard_of, either_head, at, body_reading, is_application, disjunct_form, disjunct_reading, disjuncts, implication, denial, clause_form, clause_reading}
use Rattle.horn_shape.specs.Content.{met, HeadHolds, Holds, StandAt}
use Rattle.horn_shape.specs.machinery.Gathering.{place_of}
use Rattle.horn_shape.proofs.BodyLemmas.{misread, same_read, never_read, chosen_ok, both_ok, bound_ok, met_beside, tuple_is, body_is}
use Rattle.horn_shape.proofs.HoldsLemmas.{stand_split, quantified_ok}
use Rattle.horn_shape.proofs.KnownLemmas.{AreValued, carried_on, determined, keep_args, keep_then, one_through, valued_args, valued_plain}
use Rattle.horn_shape.proofs.ScopeLemmas.{AgreeBelow, IsScope, sort_is, sort_chosen, chosen_sort, plain_local, bound_scope, scope_with_variables}
use Rattle.horn_shape.proofs.SettledLemmas.{GivesTruth, tuple_same, settled}
use Rattle.horn_shape.proofs.ShapeLemmas.{clause_plain, clause_mixed, disjunct_plain, disjunct_mixed}
use Rattle.horn_shape.proofs.DisjunctLemmas.{truth_is_true, read_chosen, clause_there}

differ : {A : Type 0} → true ≡ false → A
differ e = absurd (cc)

-- values that are instances: they stand from a number on, what is below stays, and they don't break the clause
pub record Meets (I : Interpretation) (nodes : List Node) (n : ℕ) (E F : Environment) (values : List Value) (c : Content) : Type 0 where
  pub agree : AgreeBelow n E F
  pub stand : StandAt F n values
  pub holds : Holds I nodes F c

-- all values of the clause's variables are instances that don't break it
abbrev pub AllMeet : Interpretation → List Node → ℕ → Environment → Content → (List Value → Environment) → Type 0
AllMeet I nodes n E c G = (values : List Value) → HaveSorts c.vars values → Meets I nodes n E (G values) values c

none_left : (c : Content) → c.vars ≡ [] → HaveSorts c.vars []
none_left c e = subst (λ (ss : List Sort). HaveSorts ss []) (sym e) tt

false_or : (b : Bool) → (b ≡ false → true ≡ false) → b ≡ true
false_or true h = refl
false_or false h = differ (h refl)

pub join_sorts : (a b : List Sort) (vs ws : List Value) → HaveSorts a vs → HaveSorts b ws → HaveSorts (a ++ b) (vs ++ ws)
join_sorts [] b [] ws h k = k
join_sorts [] b (v ∷ vs) ws h k = absurd h
join_sorts (s ∷ a) b [] ws h k = absurd h
join_sorts (s ∷ a) b (v ∷ vs) ws h k = (h.0, join_sorts a b vs ws h.1 k)

pub long_sorts : (a : List Sort) (vs : List Value) → HaveSorts a vs → length vs ≡ length a
long_sorts [] [] h = refl
long_sorts [] (v ∷ vs) h = absurd h
long_sorts (s ∷ a) [] h = absurd h
long_sorts (s ∷ a) (v ∷ vs) h = omega (arith, long_sorts a vs h.1)

stood : (F : Environment) (n j k : ℕ) (vs : List Value) (d : Value) → k ≡ n + j → j < length vs → StandAt F n vs → slice_index_or vs j d ≡ F k
stood F n j k [] d e less h = absurd (omega arith)
stood F n zero k (v ∷ vs) d e less h = sym h.0 ∙ ap F (omega (arith, e))
stood F n (suc j) k (v ∷ vs) d e less h = stood F (suc n) j k vs d (omega (arith, e)) (omega (arith, less)) h.1

-- with the first values bound the two agree on more
pub agree_bound : (n m : ℕ) (E F : Environment) (vs : List Value) → AgreeBelow n E F → StandAt F n vs → m ≡ n + length vs → AgreeBelow m (bound_from n vs E) F
agree_bound n m E F vs agree stand e k less = by_place (nat_lt k n) refl
  where
    worth : Bool → Value
    worth a = if a then E k else slice_index_or vs (k - n) (E k)

    below_is : nat_lt k n ≡ true → k < n
    below_is h = grind (arith, nat_tests)

    past_is : nat_lt k n ≡ false → n ≤ k
    past_is h = grind (arith, nat_tests)

    by_place : (a : Bool) → nat_lt k n ≡ a → worth (nat_lt k n) ≡ F k
    by_place true h = ap worth h ∙ agree k (below_is h)
    by_place false h = ap worth h ∙ stood F n (k - n) k vs (E k) (omega (arith, past_is h)) (omega (arith, past_is h, less, e)) stand

module _ (I : Interpretation) (preds : List Declared) (nodes : List Node) (arena : IsArena nodes) (gives : GivesTruth preds I) where
  guard_true : (id : TermId) (lets : List TermId) (n : ℕ) (E : Environment) (scope : NamesInScope) (G : List Value → Environment) → is_plain_term nodes id.0 ≡ true → IsScope preds nodes n E scope
      → is_scoped nodes id.0 scope ≡ true → AllMeet I nodes n E (guard_of true (place_of id lets)) G → HasValue I nodes id.0 E (Truth true)
  guard_true id lets n E scope G plain is scoped all =
      let m = all [] tt in
      let same = plain_local preds nodes arena id.0 n E scope is plain scoped E (G []) m.agree in
      let is_true = false_or (truth (value_of nodes id.0 E)) (λ e. absurd (m.holds (ap (λ (v : Value). (not (truth v) && true) && true) (sym same) ∙ ap (λ (b : Bool). (not b && true) && true) e))) in
      subst (λ (v : Value). HasValue I nodes id.0 E v) (truth_is_true (value_of nodes id.0 E) is_true) (valued_plain nodes arena I id.0 E plain)

  head_true : (id : TermId) (pred : ℕ) (args lets : List TermId) (c : Content) (n : ℕ) (E : Environment) (scope : NamesInScope) (G : List Value → Environment) → slice_get nodes id.0 ≡ Some (Pred pred args)
      → application_reading (is_plain_term nodes) head_of pred args (place_of id lets) ≡ Ok c → IsScope preds nodes n E scope → is_scoped nodes id.0 scope ≡ true → AllMeet I nodes n E c G
      → HasValue I nodes id.0 E (Truth true)
  head_true id pred args lets c n E scope G node_is h is scoped all =
      let below = arena_below nodes id.0 (Pred pred args) arena node_is in
      let atom : AtomUse = record { pred = pred; args = arguments lets args } in
      let fits = chosen_ok (list_all (λ a. is_plain_term nodes a.0) args) (head_of atom) id c h in
      let inner = sym (scoped_at nodes id.0 (Pred pred args) scope node_is below) ∙ scoped in
      let values : List Value = map (λ a. value_of nodes a.0 E) args in
      let has = (has_value_at I nodes id.0 (Pred pred args) E (I pred values) node_is below).back (determined (HasValue I nodes) args E values (I pred) (valued_args nodes arena I args E fits.0)) in
      let m = subst (λ (x : Content). AllMeet I nodes n E x G) (sym fits.1) all [] tt in
      subst (λ (v : Value). HasValue I nodes id.0 E v)
      (ap (I pred) (tuple_is nodes E pred lets args ∙ sym (tuple_same I preds nodes arena n E scope pred args lets is fits.0 inner (G []) m.agree)) ∙ m.holds refl) has

  -- a disjunct that is false has all its guards and atoms true, and no head that is
  abbrev IsDisjunct : TermId → Content → Environment → Environment → Type 0
  IsDisjunct id c E F = (v : Value) × HasValue I nodes id.0 E v × (truth v ≡ false → met I nodes F c ≡ true) × (truth v ≡ false → HeadHolds I nodes F c.head → ⊥) × (c.vars ≡ [])

  not_both : (v : Value) → truth v ≡ false → v ≡ Truth true → ⊥
  not_both v e h = differ (sym (ap truth h) ∙ e)

  disjunct_node : (id : TermId) (lets : List TermId) (node : Node) (c : Content) (n : ℕ) (E F : Environment) (scope : NamesInScope) → slice_get nodes id.0 ≡ Some node
      → disjunct_form nodes node (place_of id lets) ≡ Ok c → IsScope preds nodes n E scope → is_scoped nodes id.0 scope ≡ true → AgreeBelow n E F → IsDisjunct id c E F
  disjunct_node id lets (Pred pred args) c n E F scope node_is h is scoped agree =
      let below = arena_below nodes id.0 (Pred pred args) arena node_is in
      let atom : AtomUse = record { pred = pred; args = arguments lets args } in
      let fits = chosen_ok (list_all (λ a. is_plain_term nodes a.0) args) (head_of atom) id c h in
      let inner = sym (scoped_at nodes id.0 (Pred pred args) scope node_is below) ∙ scoped in
      let values : List Value = map (λ a. value_of nodes a.0 E) args in
      let has = (has_value_at I nodes id.0 (Pred pred args) E (I pred values) node_is below).back (determined (HasValue I nodes) args E values (I pred) (valued_args nodes arena I args E fits.0)) in
      let same = tuple_is nodes E pred lets args ∙ sym (tuple_same I preds nodes arena n E scope pred args lets is fits.0 inner F agree) in
      subst (λ (x : Content). IsDisjunct id x E F) fits.1 (I pred values, has, (λ e. refl), (λ e holds. not_both (I pred values) e (ap (I pred) same ∙ holds)), refl)
  disjunct_node id lets (Op Not (body ∷ [])) c n E F scope node_is h is scoped agree =
      let below = arena_below nodes id.0 (Op Not (body ∷ [])) arena node_is in
      let inner = both_true (is_scoped nodes body.0 scope) true (sym (scoped_at nodes id.0 (Op Not (body ∷ [])) scope node_is below) ∙ scoped) in
      let b = body_is I nodes arena body lets c E h in
      let s = settled I preds nodes arena gives body lets c n E scope h is inner.0 in (
        Truth (not (truth b.value)),
        (has_value_at I nodes id.0 (Op Not (body ∷ [])) E (Truth (not (truth b.value))) node_is below).back (determined (HasValue I nodes) (body ∷ []) E (b.value ∷ []) (result_of Not) (b.has, tt)),
        (λ e. s.same F agree ∙ sym b.meets ∙ from_not (truth b.value) e),
        (λ e holds. subst (λ (x : Option AtomUse). HeadHolds I nodes F x) b.head holds),
        b.vars,
      )
    where
      from_not : (b : Bool) → not b ≡ false → b ≡ true
      from_not true e = refl
      from_not false e = differ e
  disjunct_node id lets _ c n E F scope node_is h is scoped agree = absurd (cc)

  disjunct_by : (p : Bool) (id : TermId) (lets : List TermId) (node : Node) (c : Content) (n : ℕ) (E F : Environment) (scope : NamesInScope) → is_plain_term nodes id.0 ≡ p → slice_get nodes id.0 ≡ Some node
      → disjunct_reading nodes (Some node) (place_of id lets) ≡ Ok c → IsScope preds nodes n E scope → is_scoped nodes id.0 scope ≡ true → AgreeBelow n E F → IsDisjunct id c E F
  disjunct_by true id lets node c n E F scope plain node_is h is scoped agree =
      let below = arena_below nodes id.0 node arena node_is in
      let same : guard_of true (place_of id lets) ≡ c = same_read _ c (sym (disjunct_plain nodes id.0 node (place_of id lets) node_is below plain) ∙ h) in
      let local = plain_local preds nodes arena id.0 n E scope is plain scoped E F agree in
      subst (λ (x : Content). IsDisjunct id x E F) same (
        value_of nodes id.0 E,
        valued_plain nodes arena I id.0 E plain,
        (λ e. ap (λ (v : Value). (not (truth v) && true) && true) (sym local) ∙ ap (λ (b : Bool). (not b && true) && true) e),
        (λ e holds. holds),
        refl,
      )
  disjunct_by false id lets node c n E F scope plain node_is h is scoped agree =
      let below = arena_below nodes id.0 node arena node_is in
      disjunct_node id lets node c n E F scope node_is (sym (disjunct_mixed nodes id.0 node (place_of id lets) node_is below plain) ∙ h) is scoped agree

  -- disjuncts that are all false
  abbrev AreDisjuncts : List TermId → Content → Environment → Environment → Type 0
  AreDisjuncts ids c E F =
      (vs : List Value) × AreValued (HasValue I nodes) ids E vs × (list_any truth vs ≡ false → met I nodes F c ≡ true) × (list_any truth vs ≡ false → HeadHolds I nodes F c.head → ⊥) × (c.vars ≡ [])

  neither : (a b : Bool) → (a || b) ≡ false → (a ≡ false) × (b ≡ false)
  neither true b e = differ e
  neither false b e = (refl, e)

  no_head : (F : Environment) (a b : Option AtomUse) → (HeadHolds I nodes F a → ⊥) → (HeadHolds I nodes F b → ⊥) → HeadHolds I nodes F (either_head a b) → ⊥
  no_head F a None f g h = f h
  no_head F a (Some b) f g h = g h

  disjuncts_step : (headed : Bool) (lets : List TermId) (id : TermId) (ids : List TermId) (c : Content) (n : ℕ) (E F : Environment) (scope : NamesInScope) (node : Node) → slice_get nodes id.0 ≡ Some node
      → ((b : Bool) (y : Content) → disjuncts nodes b lets ids ≡ Ok y → AreDisjuncts ids y E F) → IsScope preds nodes n E scope → is_scoped nodes id.0 scope ≡ true → AgreeBelow n E F
      → both (disjunct_reading nodes (Some node) (place_of id lets)) (disjuncts nodes (headed || is_application (Some node)) lets ids) ≡ Ok c → AreDisjuncts (id ∷ ids) c E F
  disjuncts_step headed lets id ids c n E F scope node node_is rec is scoped agree k =
      let parts = both_ok (disjunct_reading nodes (Some node) (place_of id lets)) (disjuncts nodes (headed || is_application (Some node)) lets ids) c k in
      let x = parts.0 in
      let y = parts.1 in
      let first = disjunct_by (is_plain_term nodes id.0) id lets node x n E F scope refl node_is parts.2 is scoped agree in
      let rest = rec (headed || is_application (Some node)) y parts.3 in
      subst (λ (z : Content). AreDisjuncts (id ∷ ids) z E F) parts.4 (
        first.0 ∷ rest.0,
        (first.1, rest.1),
        (λ e. let f = neither (truth first.0) (list_any truth rest.0) e in
            met_beside I nodes F x y ∙ ap (λ (b : Bool). b && met I nodes F y) (first.2 f.0) ∙ rest.2 f.1),
        (λ e. let f = neither (truth first.0) (list_any truth rest.0) e in no_head F x.head y.head (first.3 f.0) (rest.3 f.1)),
        ap (λ (ss : List Sort). ss ++ y.vars) first.4 ∙ rest.4,
      )

  disjuncts_found : (headed : Bool) (lets : List TermId) (id : TermId) (ids : List TermId) (c : Content) (n : ℕ) (E F : Environment) (scope : NamesInScope) (f : Option Node) → slice_get nodes id.0 ≡ f
      → ((b : Bool) (y : Content) → disjuncts nodes b lets ids ≡ Ok y → AreDisjuncts ids y E F) → IsScope preds nodes n E scope → is_scoped nodes id.0 scope ≡ true → AgreeBelow n E F
      → (if headed && is_application f then Err id else both (disjunct_reading nodes f (place_of id lets)) (disjuncts nodes (headed || is_application f) lets ids)) ≡ Ok c
      → AreDisjuncts (id ∷ ids) c E F
  disjuncts_found headed lets id ids c n E F scope None e rec is scoped agree k = never_read id c (read_chosen (headed && false) id (misread id) c k).1
  disjuncts_found headed lets id ids c n E F scope (Some node) e rec is scoped agree k =
      let chosen = read_chosen (headed && is_application (Some node)) id
      (both (disjunct_reading nodes (Some node) (place_of id lets)) (disjuncts nodes (headed || is_application (Some node)) lets ids)) c k in
      disjuncts_step headed lets id ids c n E F scope node e rec is scoped agree chosen.1

  pub disjuncts_are : (headed : Bool) (lets ids : List TermId) (c : Content) (n : ℕ) (E F : Environment) (scope : NamesInScope) → disjuncts nodes headed lets ids ≡ Ok c → IsScope preds nodes n E scope
      → list_all (λ a. is_scoped nodes a.0 scope) ids ≡ true → AgreeBelow n E F → AreDisjuncts ids c E F
  disjuncts_are headed lets [] c n E F scope h is scoped agree =
      subst (λ (x : Content). AreDisjuncts [] x E F) (same_read nothing c h) ([], tt, (λ e. refl), (λ e holds. holds), refl)
  disjuncts_are headed lets (id ∷ ids) c n E F scope h is scoped agree =
      let inner = both_true (is_scoped nodes id.0 scope) (list_all (λ (a : TermId). is_scoped nodes a.0 scope) ids) scoped in
      disjuncts_found headed lets id ids c n E F scope (slice_get nodes id.0) refl (λ b y k. disjuncts_are b lets ids y n E F scope k is inner.1 agree) is inner.0 agree h

  -- what is known of a clause of smaller number
  abbrev Backward : ℕ → Type 0
  Backward bound = (id : TermId) (lets : List TermId) (c : Content) (n m : ℕ) (E : Environment) (scope : NamesInScope) (G : List Value → Environment) → id.0 < bound
      → clause_reading nodes id.0 (place_of id lets) ≡ Ok c → next_variable nodes id.0 n ≡ Some m → sort_of preds nodes id.0 ≡ Some BoolSort → is_scoped nodes id.0 scope ≡ true
      → IsScope preds nodes n E scope → AllMeet I nodes n E c G → HasValue I nodes id.0 E (Truth true)

  -- an implication is decided by a body that is false, or else by the rest
  abbrev Decided : List TermId → Environment → Type 0
  Decided ids E = (known : List (Option Value)) × AreKnown (HasValue I nodes) ids E known × ((values : List Value) → Completes known values → true ≡ implied (map truth values))

  last_decides : (id : TermId) (E : Environment) → HasValue I nodes id.0 E (Truth true) → Decided (id ∷ []) E
  last_decides id E h = (Some (Truth true) ∷ [], (h, tt), one)
    where
      one : (values : List Value) → Completes (Some (Truth true) ∷ []) values → true ≡ implied (map truth values)
      one [] c = absurd c
      one (v ∷ []) c = sym (ap truth c.0)
      one (v ∷ w ∷ values) c = absurd c.1

  false_decides : (a b : TermId) (ids : List TermId) (E : Environment) (v : Value) → HasValue I nodes a.0 E v → truth v ≡ false → Decided (a ∷ b ∷ ids) E
  false_decides a b ids E v h e = (Some v ∷ map (λ (i : TermId). None) (b ∷ ids), (h, nothing_known (HasValue I nodes) (b ∷ ids) E), early)
    where
      early : (values : List Value) → Completes (Some v ∷ None ∷ map (λ (i : TermId). None) ids) values → true ≡ implied (map truth values)
      early [] c = absurd c
      early (w ∷ []) c = absurd c.1
      early (w ∷ u ∷ values) c = sym (ap (λ (x : Bool). not x || implied (map truth (u ∷ values))) (ap truth c.0 ∙ e))

  true_decides : (a b : TermId) (ids : List TermId) (E : Environment) (v : Value) → HasValue I nodes a.0 E v → truth v ≡ true → Decided (b ∷ ids) E → Decided (a ∷ b ∷ ids) E
  true_decides a b ids E v h e ([], are, decides) = absurd are
  true_decides a b ids E v h e (k ∷ known, are, decides) = (Some v ∷ k ∷ known, (h, are), more)
    where
      empty : (x : Option Value) → Completes (x ∷ known) [] → ⊥
      empty None c = c
      empty (Some w) c = c

      more : (values : List Value) → Completes (Some v ∷ k ∷ known) values → true ≡ implied (map truth values)
      more [] c = absurd c
      more (w ∷ []) c = absurd (empty k c.1)
      more (w ∷ u ∷ values) c = decides (u ∷ values) c.1 ∙ sym (ap (λ (x : Bool). not x || implied (map truth (u ∷ values))) (ap truth c.0 ∙ e))

  pub right_head : (F : Environment) (a b : Option AtomUse) → a ≡ None → HeadHolds I nodes F (either_head a b) → HeadHolds I nodes F b
  right_head F a None e h = subst (λ (x : Option AtomUse). HeadHolds I nodes F x) e h
  right_head F a (Some b) e h = h

  -- without a body that is true the others have the same instances
  rest_meets : (x y : Content) (n : ℕ) (E : Environment) (G : List Value → Environment) → x.vars ≡ [] → x.head ≡ None → met I nodes E x ≡ true
      → ((F : Environment) → AgreeBelow n E F → met I nodes F x ≡ met I nodes E x) → AllMeet I nodes n E (beside x y) G → AllMeet I nodes n E y G
  rest_meets x y n E G vars head met_x same all values have =
      let m = all values (subst (λ (ss : List Sort). HaveSorts (ss ++ y.vars) values) (sym vars) have) in
      record {
        agree = m.agree;
        stand = m.stand;
        holds = λ h. right_head (G values) x.head y.head head
            (m.holds (met_beside I nodes (G values) x y ∙ ap (λ (b : Bool). b && met I nodes (G values) y) (same (G values) m.agree ∙ met_x) ∙ h));
      }

  implication_by : (b : Bool) (a next : TermId) (ids : List TermId) (E : Environment) (v : Value) → truth v ≡ b → HasValue I nodes a.0 E v
      → (truth v ≡ true → Decided (next ∷ ids) E) → Decided (a ∷ next ∷ ids) E
  implication_by true a next ids E v e h rest = true_decides a next ids E v h e (rest e)
  implication_by false a next ids E v e h rest = false_decides a next ids E v h e

  implication_true : (bound : ℕ) (id : TermId) (lets ids : List TermId) (c : Content) (n m : ℕ) (E : Environment) (scope : NamesInScope) (G : List Value → Environment) → Backward bound
      → list_all (is_below bound) ids ≡ true → implication (body_reading nodes) (clause_reading nodes) (place_of id lets) ids ≡ Ok c
      → numbers_through (next_variable nodes) ids n ≡ Some m → list_all (has_sort BoolSort) (map (λ a. sort_of preds nodes a.0) ids) ≡ true
      → list_all (λ a. is_scoped nodes a.0 scope) ids ≡ true → IsScope preds nodes n E scope → AllMeet I nodes n E c G → Decided ids E
  implication_true bound id lets [] c n m E scope G ih below h numbers sorted scoped is all = never_read id c h
  implication_true bound id lets (last ∷ []) c n m E scope G ih below h numbers sorted scoped is all =
      let low = both_true (nat_lt last.0 bound) true below in
      let sort = both_true (has_sort BoolSort (sort_of preds nodes last.0)) true sorted in
      let inner = both_true (is_scoped nodes last.0 scope) true scoped in
      last_decides last E (ih last lets c n m E scope G (below_from last.0 bound low.0) h (one_through (next_variable nodes) last n m numbers) (sort_is BoolSort (sort_of preds nodes last.0) sort.0) inner.0 is all)
  implication_true bound id lets (a ∷ b ∷ ids) c n m E scope G ih below h numbers sorted scoped is all =
      let low = both_true (nat_lt a.0 bound) (list_all (is_below bound) (b ∷ ids)) below in
      let sort = both_true (has_sort BoolSort (sort_of preds nodes a.0)) (list_all (has_sort BoolSort) (map (λ (i : TermId). sort_of preds nodes i.0) (b ∷ ids))) sorted in
      let inner = both_true (is_scoped nodes a.0 scope) (list_all (λ (i : TermId). is_scoped nodes i.0 scope) (b ∷ ids)) scoped in
      let parts = both_ok (at (body_reading nodes) lets a) (implication (body_reading nodes) (clause_reading nodes) (place_of id lets) (b ∷ ids)) c h in
      let x = parts.0 in
      let y = parts.1 in
      let body = body_is I nodes arena a lets x E parts.2 in
      let s = settled I preds nodes arena gives a lets x n E scope parts.2 is inner.0 in
      let next = carried_on (λ j. numbers_through (next_variable nodes) (b ∷ ids) j) (next_variable nodes a.0 n) m numbers in
      let after : numbers_through (next_variable nodes) (b ∷ ids) n ≡ Some m =
      subst (λ (j : ℕ). numbers_through (next_variable nodes) (b ∷ ids) j ≡ Some m) (body.keeps n next.0 next.1) next.2 in
      let whole = subst (λ (z : Content). AllMeet I nodes n E z G) (sym parts.4) all in
      implication_by (truth body.value) a b ids E body.value refl body.has
      (λ e. implication_true bound id lets (b ∷ ids) y n m E scope G ih low.1 parts.3 after sort.1 inner.1 is (rest_meets x y n E G body.vars body.head (sym body.meets ∙ e) s.same whole))

  -- the variables of a quantifier come first
  under_quantifier : (sorts : List Sort) (x : Content) (n : ℕ) (E : Environment) (G : List Value → Environment) (front : List Value) → HaveSorts sorts front
      → AllMeet I nodes n E (record { vars = sorts ++ x.vars; atoms = x.atoms; guards = x.guards; head = x.head }) G
      → AllMeet I nodes (n + length sorts) (bound_from n front E) x (λ values. G (front ++ values))
  under_quantifier sorts x n E G front have all values more =
      let m = all (front ++ values) (join_sorts sorts x.vars front values have more) in
      let long = long_sorts sorts front have in
      let stands = stand_split (G (front ++ values)) n (n + length sorts) front values (omega (arith, long)) m.stand in
      record { agree = agree_bound n (n + length sorts) E (G (front ++ values)) front m.agree stands.0 (omega (arith, long)); stand = stands.1; holds = m.holds }

  pub same_first : (first n : ℕ) (x : Option ℕ) (m : ℕ) (b : Bool) → (first == n) ≡ b → (if first == n then x else None) ≡ Some m → (first ≡ n) × (x ≡ Some m)
  same_first first n x m true e k = (same_numbers first n e, sym (ap (λ (y : Bool). if y then x else None) e) ∙ k)
    where
      same_numbers : (a b : ℕ) → (a == b) ≡ true → a ≡ b
      same_numbers a b e = grind (arith, nat_tests)
  same_first first n x m false e k = absurd (none (sym (ap (λ (y : Bool). if y then x else None) e) ∙ k))
    where
      none : None ≡ Some m → ⊥
      none q = absurd (cc)

  -- a body that is said to be false
  denied : (id : TermId) (lets : List TermId) (c : Content) (n : ℕ) (E : Environment) (scope : NamesInScope) (G : List Value → Environment) → body_reading nodes id.0 (place_of id lets) ≡ Ok c
      → IsScope preds nodes n E scope → is_scoped nodes id.0 scope ≡ true → AllMeet I nodes n E c G → (w : Value) × HasValue I nodes id.0 E w × (truth w ≡ false)
  denied id lets c n E scope G h is scoped all =
      let b = body_is I nodes arena id lets c E h in
      let s = settled I preds nodes arena gives id lets c n E scope h is scoped in
      let m = all [] (none_left c b.vars) in
      (b.value, b.has, no_met (truth b.value) (λ e. no_head_there (G []) c.head b.head (m.holds (s.same (G []) m.agree ∙ sym b.meets ∙ e))))
    where
      no_met : (b : Bool) → (b ≡ true → ⊥) → b ≡ false
      no_met true f = absurd (f refl)
      no_met false f = refl

      no_head_there : (F : Environment) (a : Option AtomUse) → a ≡ None → HeadHolds I nodes F a → ⊥
      no_head_there F a e h = subst (λ (x : Option AtomUse). HeadHolds I nodes F x) e h

  denial_true : (id : TermId) (lets : List TermId) (node : Node) (c : Content) (n m : ℕ) (E : Environment) (scope : NamesInScope) (G : List Value → Environment) → slice_get nodes id.0 ≡ Some node
      → denial nodes (Some node) (place_of id lets) ≡ Ok c → next_variable nodes id.0 n ≡ Some m → sort_of preds nodes id.0 ≡ Some BoolSort → is_scoped nodes id.0 scope ≡ true
      → IsScope preds nodes n E scope → AllMeet I nodes n E c G → (w : Value) × HasValue I nodes id.0 E w × (truth w ≡ false)
  denial_true id lets (Exists first sorts body) c n m E scope G node_is h numbers sorted scoped is all =
      let below = arena_below nodes id.0 (Exists first sorts body) arena node_is in
      let inner = quantified_ok sorts (at (body_reading nodes) lets body) c h in
      let x = inner.0 in
      let there = same_first first n (next_variable nodes body.0 (n + length sorts)) m (first == n) refl (sym (numbered_at nodes id.0 (Exists first sorts body) n node_is below) ∙ numbers) in
      let sort = sort_chosen (has_sort BoolSort (sort_of preds nodes body.0)) BoolSort BoolSort (sym (sort_at preds nodes id.0 (Exists first sorts body) node_is below) ∙ sorted) in
      let body_sort = sort_is BoolSort (sort_of preds nodes body.0) sort.0 in
      let body_scoped = subst (λ (k : ℕ). is_scoped nodes body.0 (with_variables k sorts scope) ≡ true) there.0
      (both_true (has_some sorts) (is_scoped nodes body.0 (with_variables first sorts scope)) (sym (scoped_at nodes id.0 (Exists first sorts body) scope node_is below) ∙ scoped)).1 in
      let whole = subst (λ (z : Content). AllMeet I nodes n E z G) (sym inner.2) all in (
        Truth false,
        (has_value_at I nodes id.0 (Exists first sorts body) E (Truth false) node_is below).back
            (λ values have. subst (λ (k : ℕ). HasValue I nodes body.0 (bound_from k values E) (Truth false)) (sym there.0)
            (inside body x sorts inner.1 body_sort body_scoped values have (under_quantifier sorts x n E G values have whole))),
        refl,
      )
    where
      is_false : (v : Value) → HasSort BoolSort v → truth v ≡ false → v ≡ Truth false
      is_false (Int k) s e = absurd s
      is_false (Truth b) s e = ap Truth e

      inside : (body : TermId) (x : Content) (sorts : List Sort) → body_reading nodes body.0 (place_of body lets) ≡ Ok x → sort_of preds nodes body.0 ≡ Some BoolSort
          → is_scoped nodes body.0 (with_variables n sorts scope) ≡ true → (values : List Value) → HaveSorts sorts values
          → AllMeet I nodes (n + length sorts) (bound_from n values E) x (λ ws. G (values ++ ws)) → HasValue I nodes body.0 (bound_from n values E) (Truth false)
      inside body x sorts reads sort body_scoped values have meets =
          let around = scope_with_variables preds nodes n E scope sorts values is have in
          let d = denied body lets x (n + length sorts) (bound_from n values E) (with_variables n sorts scope) (λ ws. G (values ++ ws)) reads around body_scoped meets in
          let s = settled I preds nodes arena gives body lets x (n + length sorts) (bound_from n values E) (with_variables n sorts scope) reads around body_scoped in
          subst (λ (v : Value). HasValue I nodes body.0 (bound_from n values E) v) (is_false d.0 (s.truths sort d.0 d.1) d.2) d.1
  denial_true id lets _ c n m E scope G node_is h numbers sorted scoped is all = denied id lets c n E scope G h is scoped all

  some_true : (args : List TermId) (E : Environment) (vs : List Value) → AreValued (HasValue I nodes) args E vs → list_any truth vs ≡ true
      → Determines (HasValue I nodes) args (result_of Or) E (Truth true)
  some_true args E vs h e = subst (λ (b : Bool). Determines (HasValue I nodes) args (result_of Or) E (Truth b)) e (determined (HasValue I nodes) args E vs (result_of Or) h)

  not_true : (body : TermId) (E : Environment) (v : Value) → HasValue I nodes body.0 E v → truth v ≡ false → Determines (HasValue I nodes) (body ∷ []) (result_of Not) E (Truth true)
  not_true body E v h e =
      subst (λ (b : Bool). Determines (HasValue I nodes) (body ∷ []) (result_of Not) E (Truth (not b))) e (determined (HasValue I nodes) (body ∷ []) E (v ∷ []) (result_of Not) (h, tt))

  pub sorted_args : (args : List TermId) (s : Sort) → operation_sort Implies (map (λ a. sort_of preds nodes a.0) args) ≡ Some s → list_all (has_sort BoolSort) (map (λ a. sort_of preds nodes a.0) args) ≡ true
  sorted_args args s e =
      let given : List (Option Sort) = map (λ (a : TermId). sort_of preds nodes a.0) args in
      (both_true (nat_le 2 (length given)) (list_all (has_sort BoolSort) given) (sort_chosen (all_of BoolSort 2 given) BoolSort s e).0).1

  backward_node : (id : TermId) (lets : List TermId) (node : Node) (c : Content) (n m : ℕ) (E : Environment) (scope : NamesInScope) (G : List Value → Environment) → Backward id.0
      → slice_get nodes id.0 ≡ Some node → clause_form nodes (clause_reading nodes) node (place_of id lets) ≡ Ok c → next_variable nodes id.0 n ≡ Some m
      → sort_of preds nodes id.0 ≡ Some BoolSort → is_scoped nodes id.0 scope ≡ true → IsScope preds nodes n E scope → AllMeet I nodes n E c G → HasValue I nodes id.0 E (Truth true)
  backward_node id lets (Pred pred args) c n m E scope G ih node_is h numbers sorted scoped is all = head_true id pred args lets c n E scope G node_is h is scoped all
  backward_node id lets (Forall first sorts body) c n m E scope G ih node_is h numbers sorted scoped is all =
      let below = arena_below nodes id.0 (Forall first sorts body) arena node_is in
      let inner = quantified_ok sorts (at (clause_reading nodes) lets body) c h in
      let x = inner.0 in
      let there = same_first first n (next_variable nodes body.0 (n + length sorts)) m (first == n) refl (sym (numbered_at nodes id.0 (Forall first sorts body) n node_is below) ∙ numbers) in
      let sort = sort_chosen (has_sort BoolSort (sort_of preds nodes body.0)) BoolSort BoolSort (sym (sort_at preds nodes id.0 (Forall first sorts body) node_is below) ∙ sorted) in
      let body_sort = sort_is BoolSort (sort_of preds nodes body.0) sort.0 in
      let body_scoped = subst (λ (k : ℕ). is_scoped nodes body.0 (with_variables k sorts scope) ≡ true) there.0
      (both_true (has_some sorts) (is_scoped nodes body.0 (with_variables first sorts scope)) (sym (scoped_at nodes id.0 (Forall first sorts body) scope node_is below) ∙ scoped)).1 in
      let whole = subst (λ (z : Content). AllMeet I nodes n E z G) (sym inner.2) all in
      (has_value_at I nodes id.0 (Forall first sorts body) E (Truth true) node_is below).back
      (λ values have. subst (λ (k : ℕ). HasValue I nodes body.0 (bound_from k values E) (Truth true)) (sym there.0)
      (ih body lets x (n + length sorts) m (bound_from n values E) (with_variables n sorts scope) (λ ws. G (values ++ ws)) (below_from body.0 id.0 below) inner.1 there.1 body_sort body_scoped
      (scope_with_variables preds nodes n E scope sorts values is have) (under_quantifier sorts x n E G values have whole)))
  backward_node id lets (Let binds body) c n m E scope G ih node_is h numbers sorted scoped is all =
      let below = arena_below nodes id.0 (Let binds body) arena node_is in
      let low = both_true (list_all (is_below id.0) binds) (nat_lt body.0 id.0) below in
      let fits = bound_ok (is_plain_term nodes) binds (at (clause_reading nodes) (lets ++ id ∷ []) body) c h in
      let after = one_through (next_variable nodes) body n m
      (keep_then (next_variable nodes) binds (body ∷ []) n m (keep_args nodes arena binds fits.0) (sym (numbered_at nodes id.0 (Let binds body) n node_is below) ∙ numbers)) in
      let inner = both_true (list_all (λ (a : TermId). is_scoped nodes a.0 scope) binds) (is_scoped nodes body.0 (with_bound binds scope))
      (both_true (has_some binds) (list_all (λ (a : TermId). is_scoped nodes a.0 scope) binds && is_scoped nodes body.0 (with_bound binds scope))
      (sym (scoped_at nodes id.0 (Let binds body) scope node_is below) ∙ scoped)).1 in
      let sort = chosen_sort (list_all is_sorted (map (λ b. sort_of preds nodes b.0) binds)) (sort_of preds nodes body.0) BoolSort (sym (sort_at preds nodes id.0 (Let binds body) node_is below) ∙ sorted) in
      (has_value_at I nodes id.0 (Let binds body) E (Truth true) node_is below).back
      (ih body (lets ++ id ∷ []) c n m E (with_bound binds scope) G (below_from body.0 id.0 low.1) fits.1 after sort.1 inner.1 (bound_scope preds nodes arena n E scope binds is fits.0 inner.0) all)
  backward_node id lets (Op Implies args) c n m E scope G ih node_is h numbers sorted scoped is all =
      let below = arena_below nodes id.0 (Op Implies args) arena node_is in
      let d = implication_true id.0 id lets args c n m E scope G ih below h (sym (numbered_at nodes id.0 (Op Implies args) n node_is below) ∙ numbers)
      (sorted_args args BoolSort (sym (sort_at preds nodes id.0 (Op Implies args) node_is below) ∙ sorted)) (sym (scoped_at nodes id.0 (Op Implies args) scope node_is below) ∙ scoped) is all in
      (has_value_at I nodes id.0 (Op Implies args) E (Truth true) node_is below).back (d.0, d.1, λ values completes. ap Truth (d.2 values completes))
  backward_node id lets (Op Or args) c n m E scope G ih node_is h numbers sorted scoped is all =
      let below = arena_below nodes id.0 (Op Or args) arena node_is in
      let inner = sym (scoped_at nodes id.0 (Op Or args) scope node_is below) ∙ scoped in
      let first = disjuncts_are false lets args c n E E scope h is inner (λ k less. refl) in
      let m = all [] (none_left c first.4) in
      let d = disjuncts_are false lets args c n E (G []) scope h is inner m.agree in
      let is_true = false_or (list_any truth d.0) (λ e. absurd (d.3 e (m.holds (d.2 e)))) in
      (has_value_at I nodes id.0 (Op Or args) E (Truth true) node_is below).back (some_true args E d.0 d.1 is_true)
  backward_node id lets (Op Not (body ∷ [])) c n m E scope G ih node_is h numbers sorted scoped is all =
      let below = arena_below nodes id.0 (Op Not (body ∷ [])) arena node_is in
      let low = both_true (nat_lt body.0 id.0) true below in
      let found = there_is nodes body.0 (omega (arith, below_from body.0 id.0 low.0, slice_get_within nodes id.0 (Op Not (body ∷ [])) node_is)) in
      let sort = sort_chosen (has_sort BoolSort (sort_of preds nodes body.0) && true) BoolSort BoolSort (sym (sort_at preds nodes id.0 (Op Not (body ∷ [])) node_is below) ∙ sorted) in
      let inner = both_true (is_scoped nodes body.0 scope) true (sym (scoped_at nodes id.0 (Op Not (body ∷ [])) scope node_is below) ∙ scoped) in
      let w = denial_true body lets found.0 c n m E scope G found.1 (ap (λ (f : Option Node). denial nodes f (place_of body lets)) (sym found.1) ∙ h)
      (one_through (next_variable nodes) body n m (sym (numbered_at nodes id.0 (Op Not (body ∷ [])) n node_is below) ∙ numbers))
      (sort_is BoolSort (sort_of preds nodes body.0) (both_true (has_sort BoolSort (sort_of preds nodes body.0)) true sort.0).0) inner.0 is all in
      (has_value_at I nodes id.0 (Op Not (body ∷ [])) E (Truth true) node_is below).back (not_true body E w.0 w.1 w.2)
  backward_node id lets _ c n m E scope G ih node_is h numbers sorted scoped is all = absurd (cc)

  backward_by : (p : Bool) (id : TermId) (lets : List TermId) (node : Node) (c : Content) (n m : ℕ) (E : Environment) (scope : NamesInScope) (G : List Value → Environment)
      → is_plain_term nodes id.0 ≡ p → Backward id.0 → slice_get nodes id.0 ≡ Some node → clause_reading nodes id.0 (place_of id lets) ≡ Ok c → next_variable nodes id.0 n ≡ Some m
      → sort_of preds nodes id.0 ≡ Some BoolSort → is_scoped nodes id.0 scope ≡ true → IsScope preds nodes n E scope → AllMeet I nodes n E c G → HasValue I nodes id.0 E (Truth true)
  backward_by true id lets node c n m E scope G plain ih node_is h numbers sorted scoped is all =
      let below = arena_below nodes id.0 node arena node_is in
      let same : guard_of true (place_of id lets) ≡ c = same_read _ c (sym (clause_plain nodes id.0 node (place_of id lets) node_is below plain) ∙ h) in
      guard_true id lets n E scope G plain is scoped (subst (λ (z : Content). AllMeet I nodes n E z G) (sym same) all)
  backward_by false id lets node c n m E scope G plain ih node_is h numbers sorted scoped is all =
      let below = arena_below nodes id.0 node arena node_is in
      backward_node id lets node c n m E scope G ih node_is (sym (clause_mixed nodes id.0 node (place_of id lets) node_is below plain) ∙ h) numbers sorted scoped is all

  backward_below : (bound : ℕ) → Backward bound
  backward_below zero id lets c n m E scope G less h numbers sorted scoped is all = absurd (omega (arith, less))
  backward_below (suc bound) id lets c n m E scope G less h numbers sorted scoped is all =
      let found = there_is nodes id.0 (clause_there I nodes arena id lets c h) in
      backward_by (is_plain_term nodes id.0) id lets found.0 c n m E scope G refl
      (λ k ls x a b F sc H lt. backward_below bound k ls x a b F sc H (omega (arith, lt, less))) found.1 h numbers sorted scoped is all

  -- a clause that no instance breaks is true
  pub unbroken : (id : TermId) (lets : List TermId) (c : Content) (n m : ℕ) (E : Environment) (scope : NamesInScope) (G : List Value → Environment)
      → clause_reading nodes id.0 (place_of id lets) ≡ Ok c → next_variable nodes id.0 n ≡ Some m → sort_of preds nodes id.0 ≡ Some BoolSort → is_scoped nodes id.0 scope ≡ true
      → IsScope preds nodes n E scope → AllMeet I nodes n E c G → HasValue I nodes id.0 E (Truth true)
  unbroken id lets c n m E scope G h numbers sorted scoped is all = backward_below (suc id.0) id lets c n m E scope G (omega arith) h numbers sorted scoped is all
