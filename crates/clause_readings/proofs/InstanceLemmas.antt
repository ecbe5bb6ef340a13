-- The clauses of assertions whose terms match have the same instances.
use Rattle.std.proofs.Common.{◌≡◌, ℕ, ◌+◌, List, [], ◌∷◌, map, Bool, ◌&&◌, refl, ap, ◌∙◌, subst, arith}
use Rattle.std.specs.Prelude.{Option, Some, None, Ok, Err, IsTrue, not, option_map, if◌then◌else◌}
use Rattle.std.specs.List.{list_all}
use Rattle.term_tree.specs.declared.scalar.Value.{Value}
use Rattle.term_tree.specs.declared.script.Assertion.{Assertion}
use Rattle.term_tree.specs.declared.script.Script.{Script}
use Rattle.term_tree.specs.declared.sort.Sort.{Sort}
use Rattle.term_tree.specs.Operators.{truth}
use Rattle.term_tree.specs.Truth.{HaveSorts}
use Rattle.term_tree.specs.Value.{Environment, environment_of}
use Rattle.horn_shape.specs.declared.clause.AtomUse.{AtomUse}
use Rattle.horn_shape.specs.declared.clause.HornClause.{HornClause}
use Rattle.horn_shape.specs.declared.clause.Part.{Part}
use Rattle.horn_shape.specs.Clause.{IsClauseOf, assertion_reading, content_of}
use Rattle.horn_shape.specs.Instance.{GroundAtom, IsInstance, ground, is_met, part_value, tuple_of}
use Rattle.horn_shape.specs.Shape.{Reading}
use Rattle.clause_normal.specs.Normal.{normal_clause}
use Rattle.clause_normal.specs.Reading.{clause_with}
use Rattle.clause_readings.proofs.AssertionLemmas.{same_normal}
use Rattle.clause_readings.proofs.MeetingLemmas.{IsMet}
use Rattle.clause_readings.proofs.ShapeLemmas.{AreAtomsMatched, AreContentsMatched, AreHeadsMatched, ArePartsMatched, AreReadingsMatched, same_clause}
use Rattle.clause_readings.proofs.TwinLemmas.{AreTwins, IsTwin, twin_at}
use Rattle.clause_readings.proofs.ValueLemmas.{same_value}

-- a clause of the other script with the same instances, of a term that matches
pub record HasPartner (s t : Script) (index : ℕ) (clause : HornClause) : Type 0 where
  pub first : Assertion
  pub second : Assertion
  pub twin : IsTwin s t index first second
  pub other : HornClause
  pub contents : AreContentsMatched (IsMet s.terms t.terms twin.tree first.term.0 second.term.0) (content_of clause) (content_of other)
  pub is : IsClauseOf t index other
  pub vars : clause.vars ≡ other.vars
  pub guards : (env : Environment) → list_all (is_met s.terms.nodes env) clause.guards ≡ list_all (is_met t.terms.nodes env) other.guards
  pub atoms : (env : Environment) → map (ground s.terms.nodes env) clause.atoms ≡ map (ground t.terms.nodes env) other.atoms
  pub head : (env : Environment) → option_map (ground s.terms.nodes env) clause.head ≡ option_map (ground t.terms.nodes env) other.head
  pub normal : normal_clause s clause ≡ normal_clause t other

module _ (s t : Script) (index : ℕ) (a b : Assertion) (twin : IsTwin s t index a b) where
  abbrev Met : ℕ → ℕ → Type 0
  Met = IsMet s.terms t.terms twin.tree a.term.0 b.term.0

  module _ (env : Environment) where
    same_part : (p q : Part) → Met p.term.0 q.term.0 → part_value s.terms.nodes env p ≡ part_value t.terms.nodes env q
    same_part p q h = same_value s.terms.nodes t.terms.nodes Met twin.scripts.arena twin.scripts.other_arena twin.scripts.like p.term.0 q.term.0 h env

    met_by : Bool → Value → Bool
    met_by negated value = if negated then not (truth value) else truth value

    same_met : (p q : Part) → Met p.term.0 q.term.0 → p.negated ≡ q.negated → is_met s.terms.nodes env p ≡ is_met t.terms.nodes env q
    unfolding met_by
    same_met p q h e = ap (λ (n : Bool). met_by n (part_value s.terms.nodes env p)) e ∙ ap (met_by q.negated) (same_part p q h)

    same_guards : (ps qs : List Part) → ArePartsMatched Met ps qs → list_all (is_met s.terms.nodes env) ps ≡ list_all (is_met t.terms.nodes env) qs
    same_guards [] [] h = refl
    same_guards [] (q ∷ qs) h = absurd h
    same_guards (p ∷ ps) [] h = absurd h
    same_guards (p ∷ ps) (q ∷ qs) h =
        ap (λ (x : Bool). x && list_all (is_met s.terms.nodes env) ps) (same_met p q h.0 h.1) ∙ ap (λ (x : Bool). is_met t.terms.nodes env q && x) (same_guards ps qs h.2)

    same_values : (ps qs : List Part) → ArePartsMatched Met ps qs → map (part_value s.terms.nodes env) ps ≡ map (part_value t.terms.nodes env) qs
    same_values [] [] h = refl
    same_values [] (q ∷ qs) h = absurd h
    same_values (p ∷ ps) [] h = absurd h
    same_values (p ∷ ps) (q ∷ qs) h =
        ap (λ (v : Value). v ∷ map (part_value s.terms.nodes env) ps) (same_part p q h.0) ∙ ap (λ (vs : List Value). part_value t.terms.nodes env q ∷ vs) (same_values ps qs h.2)

    same_ground : (p q : AtomUse) → p.pred ≡ q.pred → ArePartsMatched Met p.args q.args → ground s.terms.nodes env p ≡ ground t.terms.nodes env q
    same_ground p q e h =
        let made : ℕ → List Value → GroundAtom = λ pred values. record { pred = pred; values = values } in
        ap (λ (pred : ℕ). made pred (tuple_of s.terms.nodes env p)) e ∙ ap (made q.pred) (same_values p.args q.args h)

    same_atoms : (ps qs : List AtomUse) → AreAtomsMatched Met ps qs → map (ground s.terms.nodes env) ps ≡ map (ground t.terms.nodes env) qs
    same_atoms [] [] h = refl
    same_atoms [] (q ∷ qs) h = absurd h
    same_atoms (p ∷ ps) [] h = absurd h
    same_atoms (p ∷ ps) (q ∷ qs) h =
        ap (λ (g : GroundAtom). g ∷ map (ground s.terms.nodes env) ps) (same_ground p q h.0 h.1) ∙ ap (λ (gs : List GroundAtom). ground t.terms.nodes env q ∷ gs) (same_atoms ps qs h.2)

    same_head : (p q : Option AtomUse) → AreHeadsMatched Met p q → option_map (ground s.terms.nodes env) p ≡ option_map (ground t.terms.nodes env) q
    same_head None None h = refl
    same_head None (Some q) h = absurd h
    same_head (Some p) None h = absurd h
    same_head (Some p) (Some q) h = ap (λ (g : GroundAtom). Some g) (same_ground p q h.0 h.1)

  partner_of : (clause : HornClause) → clause.assertion ≡ index → (r : Reading) → assertion_reading t b ≡ r → AreReadingsMatched Met (Ok (content_of clause)) r → HasPartner s t index clause
  partner_of clause number (Err misfit) e h = absurd h
  partner_of clause number (Ok d) e h = record {
    first = a;
    second = b;
    twin = twin;
    other = clause_with index d;
    contents = h;
    is = record { assertion = b; there = twin.assertions.there; reading = e; number = refl };
    vars = h.vars;
    guards = λ env. same_guards env clause.guards d.guards h.guards;
    atoms = λ env. same_atoms env clause.atoms d.atoms h.atoms;
    head = λ env. same_head env clause.head d.head h.head;
    normal =
        ap (λ (n : ℕ). normal_clause s (clause_with n (content_of clause))) number
        ∙ same_normal Met s t twin.scripts index a b twin.assertions (content_of clause) d h;
  }

  partner_by : (clause : HornClause) → clause.assertion ≡ index → assertion_reading s a ≡ Ok (content_of clause) → HasPartner s t index clause
  partner_by clause number reading =
      partner_of clause number (assertion_reading t b) refl
      (subst (λ (r : Reading). AreReadingsMatched Met r (assertion_reading t b)) reading
      (same_clause s.terms.nodes t.terms.nodes Met twin.scripts.arena twin.scripts.other_arena twin.scripts.like a.term.0 b.term.0 twin.assertions.terms
      (record { term = a.term; lets = [] }) (record { term = b.term; lets = [] }) refl refl))

module _ (s t : Script) (twins : AreTwins s t 0 s.asserts t.asserts) where
  pub partner : (index : ℕ) (clause : HornClause) → IsClauseOf s index clause → HasPartner s t index clause
  partner index clause is =
      let number : index ≡ 0 + index = omega arith in
      let found = twin_at s t 0 index index s.asserts t.asserts is.assertion number twins is.there in
      partner_by s t index is.assertion found.other found.twin clause is.number is.reading

  pub instance_passes : (index : ℕ) (clause : HornClause) (values : List Value) → (p : HasPartner s t index clause) → IsInstance s clause values → IsInstance t p.other values
  instance_passes index clause values p x = record {
    sorts = subst (λ (vars : List Sort). HaveSorts vars values) p.vars x.sorts;
    guards = subst (λ (b : Bool). IsTrue b) (p.guards (environment_of values)) x.guards;
  }
