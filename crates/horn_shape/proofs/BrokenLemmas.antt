-- A clause that an instance breaks has its term false.
use Rattle.std.proofs.Common.{◌≡◌, ℕ, zero, suc, ◌+◌, ◌<◌, ◌==◌, List, [], ◌∷◌, ◌++◌, length, Bool, true, false, ◌&&◌, ◌||◌, refl, ap, sym, ◌∙◌, subst, arith, map}
use Rattle.std.proofs.lemmas.Option.{slice_get_within}
use Rattle.std.specs.Prelude.{slice_get, Option, Some, None, Ok, Err, nat_lt, not, if◌then◌else◌}
use Rattle.std.specs.List.{list_all, list_any}
use Rattle.term_tree.specs.declared.sort.Sort.{Sort}
use Rattle.term_tree.specs.declared.sort.Sort.TheVariants.{Bool as BoolSort}
use Rattle.term_tree.specs.declared.script.Pred.{Pred as Declared}
use Rattle.term_tree.specs.declared.node.TermId.{TermId}
use Rattle.term_tree.specs.declared.node.OpKind.TheVariants.{Not, Or, Implies}
use Rattle.term_tree.specs.declared.node.Node.{Node}
use Rattle.term_tree.specs.declared.node.Node.TheVariants.{Pred, Op, Let, Forall, Exists}
use Rattle.term_tree.specs.declared.scalar.Value.{Value}
use Rattle.term_tree.specs.declared.scalar.Value.TheVariants.{Int, Bool as Truth}
use Rattle.term_tree.specs.Arena.{IsArena, is_below}
use Rattle.term_tree.specs.Legal.{NamesInScope, with_variables, with_bound, has_some, is_scoped, numbers_through, next_variable}
use Rattle.term_tree.specs.Operators.{result_of, truth, implied}
use Rattle.term_tree.specs.Sorts.{has_sort, is_sorted, sort_of}
use Rattle.term_tree.specs.Truth.{Interpretation, Determines, HasSort, HaveSorts, bound_from, HasValue}
use Rattle.term_tree.specs.Value.{Environment, value_of}
use Rattle.term_tree.proofs.Public.{arena_below, below_from, both_true, has_value_at, numbered_at, scoped_at, sort_at, there_is}
use Rattle.horn_shape.specs.declared.clause.AtomUse.{AtomUse}
use Rattle.horn_shape.specs.Plain.{is_plain_term}
use Rattle.horn_shape.specs.Shape.{Content, nothing, beside, both, arguments, application_reading, head_of, guard_of, either_head, at, body_reading, is_application, disjunct_form, disjunct_reading, disjuncts, implication, denial, clause_form, clause_reading}
use Rattle.horn_shape.specs.Content.{met, HeadHolds, StandAt}
use Rattle.horn_shape.specs.machinery.Gathering.{place_of}
use Rattle.horn_shape.proofs.BodyLemmas.{misread, same_read, never_read, chosen_ok, both_ok, bound_ok, met_beside, tuple_is, body_is}
use Rattle.horn_shape.proofs.HoldsLemmas.{split_sorts, stand_split, quantified_ok}
use Rattle.horn_shape.proofs.KnownLemmas.{AreValued, carried_on, determined, keep_args, keep_then, one_through, valued_args, valued_plain}
use Rattle.horn_shape.proofs.ScopeLemmas.{AgreeBelow, IsScope, sort_is, sort_chosen, chosen_sort, plain_local, plain_sorted, bound_scope, scope_with_variables}
use Rattle.horn_shape.proofs.SettledLemmas.{GivesTruth, applied_truth, tuple_same, settled}
use Rattle.horn_shape.proofs.ShapeLemmas.{clause_plain, clause_mixed, disjunct_plain, disjunct_mixed}
use Rattle.horn_shape.proofs.DisjunctLemmas.{truth_is_true, read_chosen, clause_there, disjuncts_are}
use Rattle.horn_shape.proofs.UnbrokenLemmas.{agree_bound, same_first, sorted_args}

-- an instance that breaks what a term gives: its values stand from a number on, and what is below stays
pub record Broken (I : Interpretation) (nodes : List Node) (n : ℕ) (E F : Environment) (values : List Value) (c : Content) : Type 0 where
  pub agree : AgreeBelow n E F
  pub stand : StandAt F n values
  pub sorts : HaveSorts c.vars values
  pub body : met I nodes F c ≡ true
  pub head : HeadHolds I nodes F c.head → ⊥

differ : {A : Type 0} → true ≡ false → A
differ e = absurd (cc)

is_false : (v : Value) → HasSort BoolSort v → (v ≡ Truth true → ⊥) → v ≡ Truth false
is_false (Int k) s h = absurd s
is_false (Truth true) s h = absurd (h refl)
is_false (Truth false) s h = refl

is_true : (v : Value) → HasSort BoolSort v → truth v ≡ true → v ≡ Truth true
is_true v s h = truth_is_true v h

not_any : (b : Bool) → (b ≡ true → ⊥) → b ≡ false
not_any true h = absurd (h refl)
not_any false h = refl

module _ (I : Interpretation) (preds : List Declared) (nodes : List Node) (arena : IsArena nodes) (gives : GivesTruth preds I) where
  guard_false : (id : TermId) (lets : List TermId) (n : ℕ) (E F : Environment) (scope : NamesInScope) (values : List Value) → is_plain_term nodes id.0 ≡ true → IsScope preds nodes n E scope
      → is_scoped nodes id.0 scope ≡ true → sort_of preds nodes id.0 ≡ Some BoolSort → Broken I nodes n E F values (guard_of true (place_of id lets)) → HasValue I nodes id.0 E (Truth false)
  guard_false id lets n E F scope values plain is scoped sorted broken =
      let same = plain_local preds nodes arena id.0 n E scope is plain scoped E F broken.agree in
      subst (λ (v : Value). HasValue I nodes id.0 E v)
      (is_false (value_of nodes id.0 E) (plain_sorted preds nodes arena id.0 n E scope BoolSort is plain scoped sorted)
      (λ e. denied (truth (value_of nodes id.0 F)) (ap truth (sym same ∙ e)) broken.body)) (valued_plain nodes arena I id.0 E plain)
    where
      denied : (b : Bool) → b ≡ true → ((not b && true) && true) ≡ true → ⊥
      denied true e h = differ (sym h)
      denied false e h = differ (sym e)

  head_false : (id : TermId) (pred : ℕ) (args lets : List TermId) (c : Content) (n : ℕ) (E F : Environment) (scope : NamesInScope) (values : List Value) → slice_get nodes id.0 ≡ Some (Pred pred args)
      → application_reading (is_plain_term nodes) head_of pred args (place_of id lets) ≡ Ok c → IsScope preds nodes n E scope → is_scoped nodes id.0 scope ≡ true
      → sort_of preds nodes id.0 ≡ Some BoolSort → Broken I nodes n E F values c → HasValue I nodes id.0 E (Truth false)
  head_false id pred args lets c n E F scope values node_is h is scoped sorted broken =
      let below = arena_below nodes id.0 (Pred pred args) arena node_is in
      let atom : AtomUse = record { pred = pred; args = arguments lets args } in
      let fits = chosen_ok (list_all (λ a. is_plain_term nodes a.0) args) (head_of atom) id c h in
      let inner = sym (scoped_at nodes id.0 (Pred pred args) scope node_is below) ∙ scoped in
      let worth : List Value = map (λ a. value_of nodes a.0 E) args in
      let has = (has_value_at I nodes id.0 (Pred pred args) E (I pred worth) node_is below).back (determined (HasValue I nodes) args E worth (I pred) (valued_args nodes arena I args E fits.0)) in
      let b = subst (λ (x : Content). Broken I nodes n E F values x) (sym fits.1) broken in
      let same = tuple_same I preds nodes arena n E scope pred args lets is fits.0 inner F b.agree in
      subst (λ (v : Value). HasValue I nodes id.0 E v)
      (is_false (I pred worth) (applied_truth I preds nodes arena gives n E scope pred args BoolSort is fits.0 inner (sym (sort_at preds nodes id.0 (Pred pred args) node_is below) ∙ sorted))
      (λ e. b.head (ap (I pred) (same ∙ sym (tuple_is nodes E pred lets args)) ∙ e))) has

  -- what disjuncts give rests on the variables in scope
  abbrev SameThere : Content → Environment → Environment → Type 0
  SameThere c E F = (met I nodes F c ≡ met I nodes E c) × (HeadHolds I nodes E c.head → HeadHolds I nodes F c.head)

  disjunct_same : (id : TermId) (lets : List TermId) (node : Node) (c : Content) (n : ℕ) (E F : Environment) (scope : NamesInScope) → slice_get nodes id.0 ≡ Some node
      → disjunct_form nodes node (place_of id lets) ≡ Ok c → IsScope preds nodes n E scope → is_scoped nodes id.0 scope ≡ true → AgreeBelow n E F → SameThere c E F
  disjunct_same id lets (Pred pred args) c n E F scope node_is h is scoped agree =
      let below = arena_below nodes id.0 (Pred pred args) arena node_is in
      let atom : AtomUse = record { pred = pred; args = arguments lets args } in
      let fits = chosen_ok (list_all (λ a. is_plain_term nodes a.0) args) (head_of atom) id c h in
      let inner = sym (scoped_at nodes id.0 (Pred pred args) scope node_is below) ∙ scoped in
      let same = tuple_same I preds nodes arena n E scope pred args lets is fits.0 inner F agree in
      subst (λ (x : Content). SameThere x E F) fits.1 (refl, λ holds. ap (I pred) same ∙ holds)
  disjunct_same id lets (Op Not (body ∷ [])) c n E F scope node_is h is scoped agree =
      let below = arena_below nodes id.0 (Op Not (body ∷ [])) arena node_is in
      let inner = both_true (is_scoped nodes body.0 scope) true (sym (scoped_at nodes id.0 (Op Not (body ∷ [])) scope node_is below) ∙ scoped) in
      let b = body_is I nodes arena body lets c E h in (
        (settled I preds nodes arena gives body lets c n E scope h is inner.0).same F agree,
        λ holds. absurd (subst (λ (x : Option AtomUse). HeadHolds I nodes E x) b.head holds),
      )
  disjunct_same id lets _ c n E F scope node_is h is scoped agree = absurd (cc)

  disjunct_same_by : (p : Bool) (id : TermId) (lets : List TermId) (node : Node) (c : Content) (n : ℕ) (E F : Environment) (scope : NamesInScope) → is_plain_term nodes id.0 ≡ p → slice_get nodes id.0 ≡ Some node
      → disjunct_reading nodes (Some node) (place_of id lets) ≡ Ok c → IsScope preds nodes n E scope → is_scoped nodes id.0 scope ≡ true → AgreeBelow n E F → SameThere c E F
  disjunct_same_by true id lets node c n E F scope plain node_is h is scoped agree =
      let below = arena_below nodes id.0 node arena node_is in
      let same : guard_of true (place_of id lets) ≡ c = same_read _ c (sym (disjunct_plain nodes id.0 node (place_of id lets) node_is below plain) ∙ h) in
      let local = plain_local preds nodes arena id.0 n E scope is plain scoped E F agree in
      subst (λ (x : Content). SameThere x E F) same (ap (λ (v : Value). (not (truth v) && true) && true) (sym local), λ holds. holds)
  disjunct_same_by false id lets node c n E F scope plain node_is h is scoped agree =
      let below = arena_below nodes id.0 node arena node_is in
      disjunct_same id lets node c n E F scope node_is (sym (disjunct_mixed nodes id.0 node (place_of id lets) node_is below plain) ∙ h) is scoped agree

  either_same : (E F : Environment) (a b : Option AtomUse) → (HeadHolds I nodes E a → HeadHolds I nodes F a) → (HeadHolds I nodes E b → HeadHolds I nodes F b)
      → HeadHolds I nodes E (either_head a b) → HeadHolds I nodes F (either_head a b)
  either_same E F a None f g h = f h
  either_same E F a (Some b) f g h = g h

  disjuncts_same_found : (headed : Bool) (lets : List TermId) (id : TermId) (ids : List TermId) (c : Content) (n : ℕ) (E F : Environment) (scope : NamesInScope) (f : Option Node) → slice_get nodes id.0 ≡ f
      → ((b : Bool) (y : Content) → disjuncts nodes b lets ids ≡ Ok y → SameThere y E F) → IsScope preds nodes n E scope → is_scoped nodes id.0 scope ≡ true → AgreeBelow n E F
      → (if headed && is_application f then Err id else both (disjunct_reading nodes f (place_of id lets)) (disjuncts nodes (headed || is_application f) lets ids)) ≡ Ok c → SameThere c E F
  disjuncts_same_found headed lets id ids c n E F scope None e rec is scoped agree k = never_read id c (read_chosen (headed && false) id (misread id) c k).1
  disjuncts_same_found headed lets id ids c n E F scope (Some node) e rec is scoped agree k =
      let chosen = read_chosen (headed && is_application (Some node)) id
      (both (disjunct_reading nodes (Some node) (place_of id lets)) (disjuncts nodes (headed || is_application (Some node)) lets ids)) c k in
      let parts = both_ok (disjunct_reading nodes (Some node) (place_of id lets)) (disjuncts nodes (headed || is_application (Some node)) lets ids) c chosen.1 in
      let x = parts.0 in
      let y = parts.1 in
      let first = disjunct_same_by (is_plain_term nodes id.0) id lets node x n E F scope refl e parts.2 is scoped agree in
      let rest = rec (headed || is_application (Some node)) y parts.3 in
      subst (λ (z : Content). SameThere z E F) parts.4 (
        met_beside I nodes F x y ∙ ap (λ (b : Bool). b && met I nodes F y) first.0 ∙ ap (λ (b : Bool). met I nodes E x && b) rest.0 ∙ sym (met_beside I nodes E x y),
        either_same E F x.head y.head first.1 rest.1,
      )

  disjuncts_same : (headed : Bool) (lets ids : List TermId) (c : Content) (n : ℕ) (E F : Environment) (scope : NamesInScope) → disjuncts nodes headed lets ids ≡ Ok c → IsScope preds nodes n E scope
      → list_all (λ a. is_scoped nodes a.0 scope) ids ≡ true → AgreeBelow n E F → SameThere c E F
  disjuncts_same headed lets [] c n E F scope h is scoped agree = subst (λ (x : Content). SameThere x E F) (same_read nothing c h) (refl, λ holds. holds)
  disjuncts_same headed lets (id ∷ ids) c n E F scope h is scoped agree =
      let inner = both_true (is_scoped nodes id.0 scope) (list_all (λ (a : TermId). is_scoped nodes a.0 scope) ids) scoped in
      disjuncts_same_found headed lets id ids c n E F scope (slice_get nodes id.0) refl (λ b y k. disjuncts_same b lets ids y n E F scope k is inner.1 agree) is inner.0 agree h

  -- what is known of a clause of smaller number
  abbrev Falsified : ℕ → Type 0
  Falsified bound = (id : TermId) (lets : List TermId) (c : Content) (n m : ℕ) (E F : Environment) (scope : NamesInScope) (values : List Value) → id.0 < bound
      → clause_reading nodes id.0 (place_of id lets) ≡ Ok c → next_variable nodes id.0 n ≡ Some m → sort_of preds nodes id.0 ≡ Some BoolSort → is_scoped nodes id.0 scope ≡ true
      → IsScope preds nodes n E scope → Broken I nodes n E F values c → HasValue I nodes id.0 E (Truth false)

  -- all bodies are true, and the last part is false
  abbrev Refuted : List TermId → Environment → Type 0
  Refuted ids E = (vs : List Value) × AreValued (HasValue I nodes) ids E vs × (implied (map truth vs) ≡ false)

  one_more : (a b : TermId) (ids : List TermId) (E : Environment) (v : Value) → HasValue I nodes a.0 E v → truth v ≡ true → Refuted (b ∷ ids) E → Refuted (a ∷ b ∷ ids) E
  one_more a b ids E v h e ([], are, refuted) = absurd are
  one_more a b ids E v h e (w ∷ vs, are, refuted) = (v ∷ w ∷ vs, (h, are), ap (λ (x : Bool). not x || implied (map truth (w ∷ vs))) e ∙ refuted)

  rest_broken : (x y : Content) (n : ℕ) (E F : Environment) (values : List Value) → x.vars ≡ [] → x.head ≡ None → Broken I nodes n E F values (beside x y)
      → (met I nodes F x ≡ true) × Broken I nodes n E F values y
  rest_broken x y n E F values vars head broken =
      let both_met = both_true (met I nodes F x) (met I nodes F y) (sym (met_beside I nodes F x y) ∙ broken.body) in (
        both_met.0,
        record {
          agree = broken.agree;
          stand = broken.stand;
          sorts = subst (λ (ss : List Sort). HaveSorts (ss ++ y.vars) values) vars broken.sorts;
          body = both_met.1;
          head = λ holds. broken.head (put_head x.head y.head holds);
        },
      )
    where
      put_head : (a b : Option AtomUse) → HeadHolds I nodes F b → HeadHolds I nodes F (either_head a b)
      put_head a None h = absurd h
      put_head a (Some b) h = h

  implication_false : (bound : ℕ) (id : TermId) (lets ids : List TermId) (c : Content) (n m : ℕ) (E F : Environment) (scope : NamesInScope) (values : List Value) → Falsified bound
      → list_all (is_below bound) ids ≡ true → implication (body_reading nodes) (clause_reading nodes) (place_of id lets) ids ≡ Ok c
      → numbers_through (next_variable nodes) ids n ≡ Some m → list_all (has_sort BoolSort) (map (λ a. sort_of preds nodes a.0) ids) ≡ true
      → list_all (λ a. is_scoped nodes a.0 scope) ids ≡ true → IsScope preds nodes n E scope → Broken I nodes n E F values c → Refuted ids E
  implication_false bound id lets [] c n m E F scope values ih below h numbers sorted scoped is broken = never_read id c h
  implication_false bound id lets (last ∷ []) c n m E F scope values ih below h numbers sorted scoped is broken =
      let low = both_true (nat_lt last.0 bound) true below in
      let sort = both_true (has_sort BoolSort (sort_of preds nodes last.0)) true sorted in
      let inner = both_true (is_scoped nodes last.0 scope) true scoped in
      let has = ih last lets c n m E F scope values (below_from last.0 bound low.0) h (one_through (next_variable nodes) last n m numbers) (sort_is BoolSort (sort_of preds nodes last.0) sort.0) inner.0 is broken in
      (Truth false ∷ [], (has, tt), refl)
  implication_false bound id lets (a ∷ b ∷ ids) c n m E F scope values ih below h numbers sorted scoped is broken =
      let low = both_true (nat_lt a.0 bound) (list_all (is_below bound) (b ∷ ids)) below in
      let sort = both_true (has_sort BoolSort (sort_of preds nodes a.0)) (list_all (has_sort BoolSort) (map (λ (i : TermId). sort_of preds nodes i.0) (b ∷ ids))) sorted in
      let inner = both_true (is_scoped nodes a.0 scope) (list_all (λ (i : TermId). is_scoped nodes i.0 scope) (b ∷ ids)) scoped in
      let parts = both_ok (at (body_reading nodes) lets a) (implication (body_reading nodes) (clause_reading nodes) (place_of id lets) (b ∷ ids)) c h in
      let x = parts.0 in
      let y = parts.1 in
      let body = body_is I nodes arena a lets x E parts.2 in
      let s = settled I preds nodes arena gives a lets x n E scope parts.2 is inner.0 in
      let next = carried_on (λ j. numbers_through (next_variable nodes) (b ∷ ids) j) (next_variable nodes a.0 n) m numbers in
      let after : numbers_through (next_variable nodes) (b ∷ ids) n ≡ Some m =
      subst (λ (j : ℕ). numbers_through (next_variable nodes) (b ∷ ids) j ≡ Some m) (body.keeps n next.0 next.1) next.2 in
      let rest = rest_broken x y n E F values body.vars body.head (subst (λ (z : Content). Broken I nodes n E F values z) (sym parts.4) broken) in
      one_more a b ids E body.value body.has (body.meets ∙ sym (s.same F rest.1.agree) ∙ rest.0)
      (implication_false bound id lets (b ∷ ids) y n m E F scope values ih low.1 parts.3 after sort.1 inner.1 is rest.1)

  -- under a quantifier, whose variables come first
  under_broken : (sorts : List Sort) (x : Content) (n : ℕ) (E F : Environment) (values front rest : List Value) → values ≡ front ++ rest → HaveSorts sorts front → HaveSorts x.vars rest
      → length front ≡ length sorts → Broken I nodes n E F values (record { vars = sorts ++ x.vars; atoms = x.atoms; guards = x.guards; head = x.head })
      → Broken I nodes (n + length sorts) (bound_from n front E) F rest x
  under_broken sorts x n E F values front rest whole here there long broken =
      let stands = stand_split F n (n + length sorts) front rest (omega (arith, long)) (subst (λ (ws : List Value). StandAt F n ws) whole broken.stand) in
      record {
        agree = agree_bound n (n + length sorts) E F front broken.agree stands.0 (omega (arith, long));
        stand = stands.1;
        sorts = there;
        body = broken.body;
        head = broken.head;
      }

  -- a body whose parts are all true is true
  body_true : (id : TermId) (lets : List TermId) (c : Content) (n : ℕ) (E F : Environment) (scope : NamesInScope) (values : List Value) → body_reading nodes id.0 (place_of id lets) ≡ Ok c
      → IsScope preds nodes n E scope → is_scoped nodes id.0 scope ≡ true → sort_of preds nodes id.0 ≡ Some BoolSort → Broken I nodes n E F values c → HasValue I nodes id.0 E (Truth true)
  body_true id lets c n E F scope values h is scoped sorted broken =
      let b = body_is I nodes arena id lets c E h in
      let s = settled I preds nodes arena gives id lets c n E scope h is scoped in
      subst (λ (v : Value). HasValue I nodes id.0 E v) (truth_is_true b.value (b.meets ∙ sym (s.same F broken.agree) ∙ broken.body)) b.has

  denial_false : (id : TermId) (lets : List TermId) (node : Node) (c : Content) (n m : ℕ) (E F : Environment) (scope : NamesInScope) (values : List Value) → slice_get nodes id.0 ≡ Some node
      → denial nodes (Some node) (place_of id lets) ≡ Ok c → next_variable nodes id.0 n ≡ Some m → sort_of preds nodes id.0 ≡ Some BoolSort → is_scoped nodes id.0 scope ≡ true
      → IsScope preds nodes n E scope → Broken I nodes n E F values c → HasValue I nodes id.0 E (Truth true)
  denial_false id lets (Exists first sorts body) c n m E F scope values node_is h numbers sorted scoped is broken =
      let below = arena_below nodes id.0 (Exists first sorts body) arena node_is in
      let inner = quantified_ok sorts (at (body_reading nodes) lets body) c h in
      let x = inner.0 in
      let there = same_first I preds nodes arena gives first n (next_variable nodes body.0 (n + length sorts)) m (first == n) refl (sym (numbered_at nodes id.0 (Exists first sorts body) n node_is below) ∙ numbers) in
      let sort = sort_chosen (has_sort BoolSort (sort_of preds nodes body.0)) BoolSort BoolSort (sym (sort_at preds nodes id.0 (Exists first sorts body) node_is below) ∙ sorted) in
      let body_sort = sort_is BoolSort (sort_of preds nodes body.0) sort.0 in
      let body_scoped = subst (λ (k : ℕ). is_scoped nodes body.0 (with_variables k sorts scope) ≡ true) there.0
      (both_true (has_some sorts) (is_scoped nodes body.0 (with_variables first sorts scope)) (sym (scoped_at nodes id.0 (Exists first sorts body) scope node_is below) ∙ scoped)).1 in
      let whole = subst (λ (z : Content). Broken I nodes n E F values z) (sym inner.2) broken in
      let parts = split_sorts sorts x.vars values whole.sorts in
      let under = under_broken sorts x n E F values parts.front parts.rest parts.whole parts.here parts.there parts.long whole in
      (has_value_at I nodes id.0 (Exists first sorts body) E (Truth true) node_is below).back (
        parts.front,
        parts.here,
        subst (λ (k : ℕ). HasValue I nodes body.0 (bound_from k parts.front E) (Truth true)) (sym there.0)
            (body_true body lets x (n + length sorts) (bound_from n parts.front E) F (with_variables n sorts scope) parts.rest inner.1
            (scope_with_variables preds nodes n E scope sorts parts.front is parts.here) body_scoped body_sort under),
      )
  denial_false id lets _ c n m E F scope values node_is h numbers sorted scoped is broken = body_true id lets c n E F scope values h is scoped sorted broken

  none_true : (args : List TermId) (E : Environment) (vs : List Value) → AreValued (HasValue I nodes) args E vs → list_any truth vs ≡ false
      → Determines (HasValue I nodes) args (result_of Or) E (Truth false)
  none_true args E vs h e = subst (λ (b : Bool). Determines (HasValue I nodes) args (result_of Or) E (Truth b)) e (determined (HasValue I nodes) args E vs (result_of Or) h)

  not_implied : (args : List TermId) (E : Environment) (vs : List Value) → AreValued (HasValue I nodes) args E vs → implied (map truth vs) ≡ false
      → Determines (HasValue I nodes) args (result_of Implies) E (Truth false)
  not_implied args E vs h e = subst (λ (b : Bool). Determines (HasValue I nodes) args (result_of Implies) E (Truth b)) e (determined (HasValue I nodes) args E vs (result_of Implies) h)

  false_node : (id : TermId) (lets : List TermId) (node : Node) (c : Content) (n m : ℕ) (E F : Environment) (scope : NamesInScope) (values : List Value) → Falsified id.0
      → slice_get nodes id.0 ≡ Some node → clause_form nodes (clause_reading nodes) node (place_of id lets) ≡ Ok c → next_variable nodes id.0 n ≡ Some m
      → sort_of preds nodes id.0 ≡ Some BoolSort → is_scoped nodes id.0 scope ≡ true → IsScope preds nodes n E scope → Broken I nodes n E F values c → HasValue I nodes id.0 E (Truth false)
  false_node id lets (Pred pred args) c n m E F scope values ih node_is h numbers sorted scoped is broken = head_false id pred args lets c n E F scope values node_is h is scoped sorted broken
  false_node id lets (Forall first sorts body) c n m E F scope values ih node_is h numbers sorted scoped is broken =
      let below = arena_below nodes id.0 (Forall first sorts body) arena node_is in
      let inner = quantified_ok sorts (at (clause_reading nodes) lets body) c h in
      let x = inner.0 in
      let there = same_first I preds nodes arena gives first n (next_variable nodes body.0 (n + length sorts)) m (first == n) refl (sym (numbered_at nodes id.0 (Forall first sorts body) n node_is below) ∙ numbers) in
      let sort = sort_chosen (has_sort BoolSort (sort_of preds nodes body.0)) BoolSort BoolSort (sym (sort_at preds nodes id.0 (Forall first sorts body) node_is below) ∙ sorted) in
      let body_sort = sort_is BoolSort (sort_of preds nodes body.0) sort.0 in
      let body_scoped = subst (λ (k : ℕ). is_scoped nodes body.0 (with_variables k sorts scope) ≡ true) there.0
      (both_true (has_some sorts) (is_scoped nodes body.0 (with_variables first sorts scope)) (sym (scoped_at nodes id.0 (Forall first sorts body) scope node_is below) ∙ scoped)).1 in
      let whole = subst (λ (z : Content). Broken I nodes n E F values z) (sym inner.2) broken in
      let parts = split_sorts sorts x.vars values whole.sorts in
      let under = under_broken sorts x n E F values parts.front parts.rest parts.whole parts.here parts.there parts.long whole in
      (has_value_at I nodes id.0 (Forall first sorts body) E (Truth false) node_is below).back (
        parts.front,
        parts.here,
        subst (λ (k : ℕ). HasValue I nodes body.0 (bound_from k parts.front E) (Truth false)) (sym there.0)
            (ih body lets x (n + length sorts) m (bound_from n parts.front E) F (with_variables n sorts scope) parts.rest (below_from body.0 id.0 below) inner.1 there.1 body_sort body_scoped
            (scope_with_variables preds nodes n E scope sorts parts.front is parts.here) under),
      )
  false_node id lets (Let binds body) c n m E F scope values ih node_is h numbers sorted scoped is broken =
      let below = arena_below nodes id.0 (Let binds body) arena node_is in
      let low = both_true (list_all (is_below id.0) binds) (nat_lt body.0 id.0) below in
      let fits = bound_ok (is_plain_term nodes) binds (at (clause_reading nodes) (lets ++ id ∷ []) body) c h in
      let after = one_through (next_variable nodes) body n m
      (keep_then (next_variable nodes) binds (body ∷ []) n m (keep_args nodes arena binds fits.0) (sym (numbered_at nodes id.0 (Let binds body) n node_is below) ∙ numbers)) in
      let inner = both_true (list_all (λ (a : TermId). is_scoped nodes a.0 scope) binds) (is_scoped nodes body.0 (with_bound binds scope))
      (both_true (has_some binds) (list_all (λ (a : TermId). is_scoped nodes a.0 scope) binds && is_scoped nodes body.0 (with_bound binds scope))
      (sym (scoped_at nodes id.0 (Let binds body) scope node_is below) ∙ scoped)).1 in
      let sort = chosen_sort (list_all is_sorted (map (λ b. sort_of preds nodes b.0) binds)) (sort_of preds nodes body.0) BoolSort (sym (sort_at preds nodes id.0 (Let binds body) node_is below) ∙ sorted) in
      (has_value_at I nodes id.0 (Let binds body) E (Truth false) node_is below).back
      (ih body (lets ++ id ∷ []) c n m E F (with_bound binds scope) values (below_from body.0 id.0 low.1) fits.1 after sort.1 inner.1 (bound_scope preds nodes arena n E scope binds is fits.0 inner.0) broken)
  false_node id lets (Op Implies args) c n m E F scope values ih node_is h numbers sorted scoped is broken =
      let below = arena_below nodes id.0 (Op Implies args) arena node_is in
      let r = implication_false id.0 id lets args c n m E F scope values ih below h (sym (numbered_at nodes id.0 (Op Implies args) n node_is below) ∙ numbers)
      (sorted_args I preds nodes arena gives args BoolSort (sym (sort_at preds nodes id.0 (Op Implies args) node_is below) ∙ sorted)) (sym (scoped_at nodes id.0 (Op Implies args) scope node_is below) ∙ scoped) is broken in
      (has_value_at I nodes id.0 (Op Implies args) E (Truth false) node_is below).back (not_implied args E r.0 r.1 r.2)
  false_node id lets (Op Or args) c n m E F scope values ih node_is h numbers sorted scoped is broken =
      let below = arena_below nodes id.0 (Op Or args) arena node_is in
      let inner = sym (scoped_at nodes id.0 (Op Or args) scope node_is below) ∙ scoped in
      let all = disjuncts_are I nodes arena false lets args c E h in
      let same = disjuncts_same false lets args c n E F scope h is inner broken.agree in
      (has_value_at I nodes id.0 (Op Or args) E (Truth false) node_is below).back
      (none_true args E all.0 all.1 (not_any (list_any truth all.0) (λ e. broken.head (same.1 (all.2 e (sym same.0 ∙ broken.body))))))
  false_node id lets (Op Not (body ∷ [])) c n m E F scope values ih node_is h numbers sorted scoped is broken =
      let below = arena_below nodes id.0 (Op Not (body ∷ [])) arena node_is in
      let low = both_true (nat_lt body.0 id.0) true below in
      let found = there_is nodes body.0 (omega (arith, below_from body.0 id.0 low.0, slice_get_within nodes id.0 (Op Not (body ∷ [])) node_is)) in
      let sort = sort_chosen (has_sort BoolSort (sort_of preds nodes body.0) && true) BoolSort BoolSort (sym (sort_at preds nodes id.0 (Op Not (body ∷ [])) node_is below) ∙ sorted) in
      let inner = both_true (is_scoped nodes body.0 scope) true (sym (scoped_at nodes id.0 (Op Not (body ∷ [])) scope node_is below) ∙ scoped) in
      let has = denial_false body lets found.0 c n m E F scope values found.1 (ap (λ (f : Option Node). denial nodes f (place_of body lets)) (sym found.1) ∙ h)
      (one_through (next_variable nodes) body n m (sym (numbered_at nodes id.0 (Op Not (body ∷ [])) n node_is below) ∙ numbers))
      (sort_is BoolSort (sort_of preds nodes body.0) (both_true (has_sort BoolSort (sort_of preds nodes body.0)) true sort.0).0) inner.0 is broken in
      (has_value_at I nodes id.0 (Op Not (body ∷ [])) E (Truth false) node_is below).back (determined (HasValue I nodes) (body ∷ []) E (Truth true ∷ []) (result_of Not) (has, tt))
  false_node id lets _ c n m E F scope values ih node_is h numbers sorted scoped is broken = absurd (cc)

  false_by : (p : Bool) (id : TermId) (lets : List TermId) (node : Node) (c : Content) (n m : ℕ) (E F : Environment) (scope : NamesInScope) (values : List Value)
      → is_plain_term nodes id.0 ≡ p → Falsified id.0 → slice_get nodes id.0 ≡ Some node → clause_reading nodes id.0 (place_of id lets) ≡ Ok c → next_variable nodes id.0 n ≡ Some m
      → sort_of preds nodes id.0 ≡ Some BoolSort → is_scoped nodes id.0 scope ≡ true → IsScope preds nodes n E scope → Broken I nodes n E F values c → HasValue I nodes id.0 E (Truth false)
  false_by true id lets node c n m E F scope values plain ih node_is h numbers sorted scoped is broken =
      let below = arena_below nodes id.0 node arena node_is in
      let same : guard_of true (place_of id lets) ≡ c = same_read _ c (sym (clause_plain nodes id.0 node (place_of id lets) node_is below plain) ∙ h) in
      guard_false id lets n E F scope values plain is scoped sorted (subst (λ (z : Content). Broken I nodes n E F values z) (sym same) broken)
  false_by false id lets node c n m E F scope values plain ih node_is h numbers sorted scoped is broken =
      let below = arena_below nodes id.0 node arena node_is in
      false_node id lets node c n m E F scope values ih node_is (sym (clause_mixed nodes id.0 node (place_of id lets) node_is below plain) ∙ h) numbers sorted scoped is broken

  false_below : (bound : ℕ) → Falsified bound
  false_below zero id lets c n m E F scope values less h numbers sorted scoped is broken = absurd (omega (arith, less))
  false_below (suc bound) id lets c n m E F scope values less h numbers sorted scoped is broken =
      let found = there_is nodes id.0 (clause_there I nodes arena id lets c h) in
      false_by (is_plain_term nodes id.0) id lets found.0 c n m E F scope values refl
      (λ k ls x a b G H sc ws lt. false_below bound k ls x a b G H sc ws (omega (arith, lt, less))) found.1 h numbers sorted scoped is broken

  -- a clause that an instance breaks is false
  pub falsified : (id : TermId) (lets : List TermId) (c : Content) (n m : ℕ) (E F : Environment) (scope : NamesInScope) (values : List Value)
      → clause_reading nodes id.0 (place_of id lets) ≡ Ok c → next_variable nodes id.0 n ≡ Some m → sort_of preds nodes id.0 ≡ Some BoolSort → is_scoped nodes id.0 scope ≡ true
      → IsScope preds nodes n E scope → Broken I nodes n E F values c → HasValue I nodes id.0 E (Truth false)
  falsified id lets c n m E F scope values h numbers sorted scoped is broken = false_below (suc id.0) id lets c n m E F scope values (omega arith) h numbers sorted scoped is broken
