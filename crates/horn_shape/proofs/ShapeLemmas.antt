-- What a term gives as a body or as a clause, by its node.
use Rattle.std.proofs.Common.{◌≡◌, ℕ, ◌<◌, List, [], ◌∷◌, ◌++◌, Bool, true, false, refl, ap, sym, ◌∙◌}
use Rattle.std.specs.Prelude.{slice_get, Some, nat_lt, Ok, Err, if◌then◌else◌}
use Rattle.std.specs.List.{list_all}
use Rattle.term_tree.specs.declared.node.TermId.{TermId}
use Rattle.term_tree.specs.declared.node.OpKind.TheVariants.{And, Implies}
use Rattle.term_tree.specs.declared.node.Node.{Node}
use Rattle.term_tree.specs.declared.node.Node.TheVariants.{Op, Let, Forall}
use Rattle.term_tree.specs.Arena.{is_below, has_parts_below}
use Rattle.term_tree.proofs.Public.{below_from, both_true, told_at_each as told_at}
use Rattle.horn_shape.specs.Plain.{node_is_plain, is_plain_term}
use Rattle.horn_shape.specs.Shape.{Place, Reading, at, both, bound_over, quantified_reading, guard_of, each, implication, body_form, node_body, body_reading, clause_form, node_clause, clause_reading, disjunct_form, disjunct_reading}
use Rattle.horn_shape.proofs.FlagLemmas.{plain_at}

-- the two tell the same below n
abbrev Agree : (A X : Type 0) → (ℕ → A → X) → (ℕ → A → X) → ℕ → Type 0
Agree A X p q n = (c : ℕ) → c < n → (a : A) → p c a ≡ q c a

each_rest : (p q : ℕ → Place → Reading) (n : ℕ) (lets ids : List TermId) → Agree Place Reading p q n → list_all (is_below n) ids ≡ true → each p lets ids ≡ each q lets ids
each_rest p q n lets [] same below = refl
each_rest p q n lets (id ∷ ids) same below =
    let both_below = both_true (nat_lt id.0 n) (list_all (is_below n) ids) below in
    ap (λ r. both r (each p lets ids)) (same id.0 (below_from id.0 n both_below.0) (record { term = id; lets = lets }))
    ∙ ap (both (at q lets id)) (each_rest p q n lets ids same both_below.1)

body_form_rest : (plain : ℕ → Bool) (p q : ℕ → Place → Reading) (n : ℕ) (node : Node) (place : Place) → Agree Place Reading p q n → has_parts_below n node ≡ true
    → body_form plain p node place ≡ body_form plain q node place
body_form_rest plain p q n (Op And args) place same below = each_rest p q n place.lets args same below
body_form_rest plain p q n (Let bound body) place same below =
    let both_below = both_true (list_all (is_below n) bound) (nat_lt body.0 n) below in
    ap (bound_over plain bound) (same body.0 (below_from body.0 n both_below.1) (record { term = body; lets = place.lets ++ place.term ∷ [] }))
body_form_rest plain p q n _ place same below = refl

body_rest : (plain : ℕ → Bool) (p q : ℕ → Place → Reading) (n : ℕ) (node : Node) (place : Place) → Agree Place Reading p q n → has_parts_below n node ≡ true
    → node_body plain p node place ≡ node_body plain q node place
body_rest plain p q n node place same below = ap (λ r. if node_is_plain plain node then Ok (guard_of false place) else r) (body_form_rest plain p q n node place same below)

implication_rest : (body p q : ℕ → Place → Reading) (n : ℕ) (place : Place) (ids : List TermId) → Agree Place Reading p q n → list_all (is_below n) ids ≡ true
    → implication body p place ids ≡ implication body q place ids
implication_rest body p q n place [] same below = refl
implication_rest body p q n place (id ∷ []) same below =
    let both_below = both_true (nat_lt id.0 n) true below in same id.0 (below_from id.0 n both_below.0) (record { term = id; lets = place.lets })
implication_rest body p q n place (id ∷ next ∷ ids) same below =
    let both_below = both_true (nat_lt id.0 n) (list_all (is_below n) (next ∷ ids)) below in
    ap (both (at body place.lets id)) (implication_rest body p q n place (next ∷ ids) same both_below.1)

clause_form_rest : (nodes : List Node) (p q : ℕ → Place → Reading) (n : ℕ) (node : Node) (place : Place) → Agree Place Reading p q n → has_parts_below n node ≡ true
    → clause_form nodes p node place ≡ clause_form nodes q node place
clause_form_rest nodes p q n (Op Implies args) place same below = implication_rest (body_reading nodes) p q n place args same below
clause_form_rest nodes p q n (Forall first sorts body) place same below = ap (quantified_reading sorts) (same body.0 (below_from body.0 n below) (record { term = body; lets = place.lets }))
clause_form_rest nodes p q n (Let bound body) place same below =
    let both_below = both_true (list_all (is_below n) bound) (nat_lt body.0 n) below in
    ap (bound_over (is_plain_term nodes) bound) (same body.0 (below_from body.0 n both_below.1) (record { term = body; lets = place.lets ++ place.term ∷ [] }))
clause_form_rest nodes p q n _ place same below = refl

clause_rest : (nodes : List Node) (p q : ℕ → Place → Reading) (n : ℕ) (node : Node) (place : Place) → Agree Place Reading p q n → has_parts_below n node ≡ true
    → node_clause nodes p node place ≡ node_clause nodes q node place
clause_rest nodes p q n node place same below = ap (λ r. if node_is_plain (is_plain_term nodes) node then Ok (guard_of true place) else r) (clause_form_rest nodes p q n node place same below)

-- the law of a node for bodies
pub body_at : (nodes : List Node) (id : ℕ) (node : Node) (place : Place) → slice_get nodes id ≡ Some node → has_parts_below id node ≡ true
    → body_reading nodes id place ≡ node_body (is_plain_term nodes) (body_reading nodes) node place
body_at nodes id node place is below =
    told_at Place Reading (λ p. Err p.term) (node_body (is_plain_term nodes)) (body_rest (is_plain_term nodes)) nodes id node place is below

-- the law of a node for clauses
pub clause_at : (nodes : List Node) (id : ℕ) (node : Node) (place : Place) → slice_get nodes id ≡ Some node → has_parts_below id node ≡ true
    → clause_reading nodes id place ≡ node_clause nodes (clause_reading nodes) node place
clause_at nodes id node place is below = told_at Place Reading (λ p. Err p.term) (node_clause nodes) (clause_rest nodes) nodes id node place is below

module _ (nodes : List Node) (id : ℕ) (node : Node) (place : Place) (is : slice_get nodes id ≡ Some node) (below : has_parts_below id node ≡ true) where
  chosen : (b : Bool) (x y : Reading) → is_plain_term nodes id ≡ b → (if node_is_plain (is_plain_term nodes) node then x else y) ≡ (if b then x else y)
  chosen b x y h = ap (λ (c : Bool). if c then x else y) (sym (plain_at nodes id node is below) ∙ h)

  pub body_plain : is_plain_term nodes id ≡ true → body_reading nodes id place ≡ Ok (guard_of false place)
  body_plain h = body_at nodes id node place is below ∙ chosen true _ _ h

  pub body_mixed : is_plain_term nodes id ≡ false → body_reading nodes id place ≡ body_form (is_plain_term nodes) (body_reading nodes) node place
  body_mixed h = body_at nodes id node place is below ∙ chosen false _ _ h

  pub clause_plain : is_plain_term nodes id ≡ true → clause_reading nodes id place ≡ Ok (guard_of true place)
  clause_plain h = clause_at nodes id node place is below ∙ chosen true _ _ h

  pub clause_mixed : is_plain_term nodes id ≡ false → clause_reading nodes id place ≡ clause_form nodes (clause_reading nodes) node place
  clause_mixed h = clause_at nodes id node place is below ∙ chosen false _ _ h

  disjunct_chosen : (b : Bool) → is_plain_term nodes id ≡ b → disjunct_reading nodes (Some node) place ≡ (if b then Ok (guard_of true place) else disjunct_form nodes node place)
  disjunct_chosen b h = chosen b _ _ h

  pub disjunct_plain : is_plain_term nodes id ≡ true → disjunct_reading nodes (Some node) place ≡ Ok (guard_of true place)
  disjunct_plain h = disjunct_chosen true h

  pub disjunct_mixed : is_plain_term nodes id ≡ false → disjunct_reading nodes (Some node) place ≡ disjunct_form nodes node place
  disjunct_mixed h = disjunct_chosen false h
