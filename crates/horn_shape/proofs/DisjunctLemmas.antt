-- Disjuncts have values; where one is true and all their guards and atoms are, their head is.
use Rattle.std.proofs.Common.{◌≡◌, ◌<◌, List, [], ◌∷◌, length, Bool, true, false, ◌&&◌, ◌||◌, inl, inr, refl, ap, sym, ◌∙◌, subst}
use Rattle.std.proofs.lemmas.Bool.{cases_lt}
use Rattle.std.specs.Prelude.{slice_get, Option, Some, None, Ok, Err, not, if◌then◌else◌}
use Rattle.std.specs.List.{list_any}
use Rattle.term_tree.specs.declared.node.TermId.{TermId}
use Rattle.term_tree.specs.declared.node.OpKind.TheVariants.{Not}
use Rattle.term_tree.specs.declared.node.Node.{Node}
use Rattle.term_tree.specs.declared.node.Node.TheVariants.{Pred, Op}
use Rattle.term_tree.specs.declared.scalar.Value.{Value}
use Rattle.term_tree.specs.declared.scalar.Value.TheVariants.{Bool as Truth}
use Rattle.term_tree.specs.Arena.{IsArena}
use Rattle.term_tree.specs.Operators.{result_of, truth}
use Rattle.term_tree.specs.Truth.{Interpretation, HasValue}
use Rattle.term_tree.specs.Value.{Environment, value_of}
use Rattle.term_tree.proofs.Public.{arena_below, both_true, has_value_at, told_past}
use Rattle.horn_shape.specs.declared.clause.AtomUse.{AtomUse}
use Rattle.horn_shape.specs.Plain.{is_plain_term}
use Rattle.horn_shape.specs.Shape.{Content, Place, Reading, nothing, both, guard_of, either_head, is_application, disjunct_form, disjunct_reading, disjuncts, node_clause, clause_reading}
use Rattle.horn_shape.specs.Content.{met, HeadHolds, Holds}
use Rattle.horn_shape.specs.machinery.Gathering.{place_of}
use Rattle.horn_shape.proofs.KnownLemmas.{AreValued, determined, valued_plain}
use Rattle.horn_shape.proofs.BodyLemmas.{misread, same_read, never_read, both_ok, met_beside, body_is}
use Rattle.horn_shape.proofs.HoldsLemmas.{guard_holds, head_is, head_holds, denied_holds}
use Rattle.horn_shape.proofs.ShapeLemmas.{disjunct_plain, disjunct_mixed}

pub truth_is_true : (v : Value) → truth v ≡ true → v ≡ Truth true
truth_is_true (Truth true) h = refl
truth_is_true _ h = absurd (cc)

not_is_true : (b : Bool) → not b ≡ true → b ≡ false
not_is_true true h = absurd (cc)
not_is_true false h = refl

either : {A : Type 0} (a b : Bool) → (a || b) ≡ true → (a ≡ true → A) → (b ≡ true → A) → A
either true b h f g = f refl
either false b h f g = g h

pub read_chosen : (b : Bool) (t : TermId) (r : Reading) (c : Content) → (if b then Err t else r) ≡ Ok c → (b ≡ false) × (r ≡ Ok c)
read_chosen true t r c h = absurd (cc)
read_chosen false t r c h = (refl, h)

module _ (I : Interpretation) (nodes : List Node) (arena : IsArena nodes) where
  right_head : (E : Environment) (a b : Option AtomUse) → HeadHolds I nodes E b → HeadHolds I nodes E (either_head a b)
  right_head E a None h = absurd h
  right_head E a (Some b) h = h

  left_head : (E : Environment) (a b : Option AtomUse) → b ≡ None → HeadHolds I nodes E a → HeadHolds I nodes E (either_head a b)
  left_head E a b e h = subst (λ (x : Option AtomUse). HeadHolds I nodes E (either_head a x)) (sym e) h

  no_head : {A : Type 0} (E : Environment) (a : Option AtomUse) → a ≡ None → HeadHolds I nodes E a → A
  no_head E a e h = absurd (subst (λ (x : Option AtomUse). HeadHolds I nodes E x) e h)

  disjunct_node : (id : TermId) (lets : List TermId) (c : Content) (E : Environment) (node : Node) → slice_get nodes id.0 ≡ Some node
      → disjunct_form nodes node (place_of id lets) ≡ Ok c
      → (v : Value) × HasValue I nodes id.0 E v × (truth v ≡ true → Holds I nodes E c) × (is_application (Some node) ≡ false → c.head ≡ None)
  disjunct_node id lets c E (Pred pred args) is h =
      let found = head_is I nodes arena id pred args lets c E is h in
      (found.0, found.1, (λ t. head_holds I nodes arena id pred args lets c E is h (subst (λ (w : Value). HasValue I nodes id.0 E w) (truth_is_true found.0 t) found.1)), (λ e. absurd (cc)))
  disjunct_node id lets c E (Op Not (body ∷ [])) is h =
      let b = body_is I nodes arena body lets c E h in
      let below = arena_below nodes id.0 (Op Not (body ∷ [])) arena is in (
        Truth (not (truth b.value)),
        (has_value_at I nodes id.0 (Op Not (body ∷ [])) E (Truth (not (truth b.value))) is below).back (determined (HasValue I nodes) (body ∷ []) E (b.value ∷ []) (result_of Not) (b.has, tt)),
        (λ t. λ m. absurd (denied_holds I nodes arena body lets c E b.value h b.has (not_is_true (truth b.value) t) m)),
        (λ e. b.head),
      )
  disjunct_node id lets c E _ is h = absurd (cc)

  disjunct_by : (p : Bool) (id : TermId) (lets : List TermId) (c : Content) (E : Environment) (node : Node) → is_plain_term nodes id.0 ≡ p → slice_get nodes id.0 ≡ Some node
      → disjunct_reading nodes (Some node) (place_of id lets) ≡ Ok c
      → (v : Value) × HasValue I nodes id.0 E v × (truth v ≡ true → Holds I nodes E c) × (is_application (Some node) ≡ false → c.head ≡ None)
  disjunct_by true id lets c E node plain is h =
      let below = arena_below nodes id.0 node arena is in
      let same : guard_of true (place_of id lets) ≡ c = same_read _ c (sym (disjunct_plain nodes id.0 node (place_of id lets) is below plain) ∙ h) in
      let has = valued_plain nodes arena I id.0 E plain in (
        value_of nodes id.0 E,
        has,
        (λ t. subst (λ (x : Content). Holds I nodes E x) same
            (guard_holds I nodes arena id lets E plain (subst (λ (w : Value). HasValue I nodes id.0 E w) (truth_is_true (value_of nodes id.0 E) t) has))),
        (λ e. sym (ap (λ (x : Content). x.head) same)),
      )
  disjunct_by false id lets c E node plain is h =
      let below = arena_below nodes id.0 node arena is in
      disjunct_node id lets c E node is (sym (disjunct_mixed nodes id.0 node (place_of id lets) is below plain) ∙ h)

  -- what is known of disjuncts
  abbrev AreDisjuncts : Bool → List TermId → Content → Environment → Type 0
  AreDisjuncts headed ids c E =
      (vs : List Value) × AreValued (HasValue I nodes) ids E vs × (list_any truth vs ≡ true → Holds I nodes E c) × (headed ≡ true → c.head ≡ None)

  not_second : (a b : Bool) → a ≡ true → (a && b) ≡ false → b ≡ false
  not_second true b e s = s
  not_second false b e s = absurd (cc)

  or_true : (a b : Bool) → b ≡ true → (a || b) ≡ true
  or_true true b e = refl
  or_true false b e = e

  head_beside : (E : Environment) (headed b : Bool) (x y : Option AtomUse) → (b ≡ false → x ≡ None) → ((headed || b) ≡ true → y ≡ None) → HeadHolds I nodes E x
      → HeadHolds I nodes E (either_head x y)
  head_beside E headed true x y f g holds = left_head E x y (g (or_true headed true refl)) holds
  head_beside E headed false x y f g holds = no_head E x (f refl) holds

  disjuncts_step : (headed : Bool) (lets : List TermId) (id : TermId) (ids : List TermId) (c : Content) (E : Environment) (node : Node) → slice_get nodes id.0 ≡ Some node
      → ((b : Bool) (y : Content) → disjuncts nodes b lets ids ≡ Ok y → AreDisjuncts b ids y E) → (headed && is_application (Some node)) ≡ false
      → both (disjunct_reading nodes (Some node) (place_of id lets)) (disjuncts nodes (headed || is_application (Some node)) lets ids) ≡ Ok c → AreDisjuncts headed (id ∷ ids) c E
  disjuncts_step headed lets id ids c E node is rec second k =
      let parts = both_ok (disjunct_reading nodes (Some node) (place_of id lets)) (disjuncts nodes (headed || is_application (Some node)) lets ids) c k in
      let x = parts.0 in
      let y = parts.1 in
      let first = disjunct_by (is_plain_term nodes id.0) id lets x E node refl is parts.2 in
      let rest = rec (headed || is_application (Some node)) y parts.3 in (
        first.0 ∷ rest.0,
        (first.1, rest.1),
        (λ t. subst (λ (z : Content). Holds I nodes E z) parts.4 (λ m.
            let mets = both_true (met I nodes E x) (met I nodes E y) (sym (met_beside I nodes E x y) ∙ m) in
            either (truth first.0) (list_any truth rest.0) t
            (λ one. head_beside E headed (is_application (Some node)) x.head y.head first.3 rest.3 (first.2 one mets.0))
            (λ more. right_head E x.head y.head (rest.2 more mets.1)))),
        (λ e. subst (λ (z : Content). z.head ≡ None) parts.4
            (ap (λ (a : Option AtomUse). either_head a y.head) (first.3 (not_second headed (is_application (Some node)) e second))
            ∙ ap (either_head None) (rest.3 (ap (λ (b : Bool). b || is_application (Some node)) e)))),
      )

  abbrev DisjunctsOf : Bool → List TermId → TermId → List TermId → Option Node → Reading
  DisjunctsOf headed lets id ids f =
      if headed && is_application f then Err id else both (disjunct_reading nodes f (place_of id lets)) (disjuncts nodes (headed || is_application f) lets ids)

  disjuncts_found : (headed : Bool) (lets : List TermId) (id : TermId) (ids : List TermId) (c : Content) (E : Environment) (f : Option Node) → slice_get nodes id.0 ≡ f
      → ((b : Bool) (y : Content) → disjuncts nodes b lets ids ≡ Ok y → AreDisjuncts b ids y E) → DisjunctsOf headed lets id ids f ≡ Ok c → AreDisjuncts headed (id ∷ ids) c E
  disjuncts_found headed lets id ids c E None e rec k = never_read id c (read_chosen (headed && false) id (misread id) c k).1
  disjuncts_found headed lets id ids c E (Some node) e rec k =
      let chosen = read_chosen (headed && is_application (Some node)) id
      (both (disjunct_reading nodes (Some node) (place_of id lets)) (disjuncts nodes (headed || is_application (Some node)) lets ids)) c k in
      disjuncts_step headed lets id ids c E node e rec chosen.0 chosen.1

  pub disjuncts_are : (headed : Bool) (lets ids : List TermId) (c : Content) (E : Environment) → disjuncts nodes headed lets ids ≡ Ok c → AreDisjuncts headed ids c E
  disjuncts_are headed lets [] c E h =
      let same : nothing ≡ c = same_read nothing c h in ([], tt, (λ t. absurd (cc)), (λ e. sym (ap (λ (x : Content). x.head) same)))
  disjuncts_are headed lets (id ∷ ids) c E h = disjuncts_found headed lets id ids c E (slice_get nodes id.0) refl (λ b y k. disjuncts_are b lets ids y E k) h

  pub clause_there : (id : TermId) (lets : List TermId) (c : Content) → clause_reading nodes id.0 (place_of id lets) ≡ Ok c → id.0 < length nodes
  clause_there id lets c h = elim (cases_lt id.0 (length nodes)) [
    | inl less ↦ less
    | inr past ↦
        let none = told_past (Place → Reading) (λ p. Err p.term) (node_clause nodes) nodes id.0 past in
        never_read id c (ap (λ (f : Place → Reading). f (place_of id lets)) (sym none) ∙ h)
  ]
