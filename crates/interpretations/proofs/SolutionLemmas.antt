-- No instance of the script breaks its clause under definitions by the lemmas of a frame that is a solution over its system.
use Rattle.std.proofs.Common.{◌≡◌, ℕ, zero, suc, ◌+◌, ◌<◌, List, [], ◌∷◌, map, Bool, true, ◌&&◌, refl, ap, sym, ◌∙◌, subst, arith}
use Rattle.std.specs.Prelude.{slice_get, Option, Some, None, option_map, Result, Ok, Err}
use Rattle.std.specs.List.{AllByRecursion, list_all}
use Rattle.term_tree.specs.declared.definition.Definition.{Definition}
use Rattle.term_tree.specs.declared.refusal.Checked.{Checked}
use Rattle.term_tree.specs.declared.refusal.Refusal.{Refusal}
use Rattle.term_tree.specs.declared.scalar.Value.{Value}
use Rattle.term_tree.specs.declared.script.Assertion.{Assertion}
use Rattle.term_tree.specs.declared.script.Pred.{Pred}
use Rattle.term_tree.specs.declared.script.Script.{Script}
use Rattle.term_tree.specs.Arena.{IsArena}
use Rattle.term_tree.specs.Solution.{IsSolution, defined_value, interpretation_of}
use Rattle.horn_shape.specs.declared.clause.HornClause.{HornClause}
use Rattle.horn_shape.specs.Breaking.{Breaks, IsTrueAtom, IsTrueHead}
use Rattle.horn_shape.specs.Clause.{IsClauseOf, IsLegalScript}
use Rattle.horn_shape.specs.Instance.{GroundAtom, IsInstance, conclusion_of, premises_of}
use Rattle.horn_shape.proofs.Public.{unbroken_solution}
use Rattle.clause_form.specs.System.{Clauses}
use Rattle.clause_form.specs.declared.clause.Clause.{Clause}
use Rattle.clause_normal.specs.Normal.{normal_clause}
use Rattle.clause_normal.specs.Reading.{all_clauses, normal_reading, clause_and_others, system_reading}
use Rattle.clause_laws.specs.Point.{numbers}
use Rattle.clause_laws.proofs.PointLemmas.{instance_extends, point_of, same_atoms, same_head}
use Rattle.lemma_frames.specs.declared.framed.Framed.{Framed}
use Rattle.book_rules.specs.Frames.{in_frame}
use Rattle.book_rules.specs.Frames.{IsSolution as IsSolutionOver}
use Rattle.book_rules.specs.Instances.{Ground, InstanceOf, instances}
use Rattle.cube_rules.specs.Views.{lemmas_of}
use Rattle.cert_derivations.specs.Steps.{as_tuple}
use Rattle.cert_derivations.proofs.AtomLemmas.{IsSortedAtom, IsSortedHead, body_tuples, conclusion_sorted, head_tuple, premises_sorted}
use Rattle.cert_derivations.proofs.SystemLemmas.{IsMadeOf, normal_at, normal_there, system_made}
use Rattle.interpretations.specs.Definitions.{AreDefinitionsOf, IsDefinitionOf}
use Rattle.interpretations.proofs.Public.{are-formulas, defines-each}
use Rattle.interpretations.proofs.LawLemmas.{from-frame as true-in-frame}
use Rattle.interpretations.proofs.LawLemmas.{in-frame as frame-of-true}
use Rattle.interpretations.proofs.FrameLemmas.{frame-in}
use Rattle.interpretations.proofs.FrameLemmas.{in-frame as holds-in-frame}

-- each assertion has a clause

one-more-is : (one : Result Clause Refusal) (others : Result (List Clause) Refusal) (clauses : List Clause) → clause_and_others one others ≡ Ok clauses
    → (rest : List Clause) × (clause : Clause) × (others ≡ Ok rest) × (clauses ≡ clause ∷ rest)
one-more-is (Err refusal) others clauses h = absurd (cc)
one-more-is (Ok clause) (Err refusal) clauses h = absurd (cc)
one-more-is (Ok clause) (Ok rest) clauses h = (rest, clause, refl, cc)

some-clause : (script : Script) (base : ℕ) (asserts : List Assertion) (clauses : List Clause) → all_clauses script base asserts ≡ Ok clauses → (i : ℕ) (a : Assertion) → slice_get asserts i ≡ Some a
    → (clause : Clause) × (slice_get clauses i ≡ Some clause)
some-clause script base [] clauses h i a at = absurd (cc)
some-clause script base (b ∷ asserts) clauses h zero a at =
    let parts = one-more-is (normal_reading script base b) (all_clauses script (base + 1) asserts) clauses h in (parts.1, ap (λ (cs : List Clause). slice_get cs 0) parts.3)
some-clause script base (b ∷ asserts) clauses h (suc i) a at =
    let parts = one-more-is (normal_reading script base b) (all_clauses script (base + 1) asserts) clauses h in
    let later = some-clause script (base + 1) asserts parts.0 parts.2 i a at in (later.0, ap (λ (cs : List Clause). slice_get cs (suc i)) parts.3 ∙ later.1)

-- the definition of a predicate

definition-at : (lemmas : List Framed) (k number : ℕ) (preds : List Pred) (definitions : List Definition) → AreDefinitionsOf lemmas k number preds definitions → (i : ℕ) (p : Pred)
    → slice_get preds i ≡ Some p → (d : Definition) × (slice_get definitions i ≡ Some d) × IsDefinitionOf lemmas k (number + i) p d
definition-at lemmas k number [] definitions h i p at = absurd (cc)
definition-at lemmas k number (q ∷ preds) [] h i p at = absurd h
definition-at lemmas k number (q ∷ preds) (d ∷ definitions) h zero p at = (
  d,
  refl,
  subst (λ (n : ℕ). IsDefinitionOf lemmas k n p d) (sym (nothing-more number)) (subst (λ (r : Pred). IsDefinitionOf lemmas k number r d) (same q p at) h.0),
)
  where
    nothing-more : (n : ℕ) → n + 0 ≡ n
    nothing-more n = omega arith

    same : (q p : Pred) → (let found : Option Pred = Some q in found) ≡ Some p → q ≡ p
    same q p is = cc
definition-at lemmas k number (q ∷ preds) (d ∷ definitions) h (suc i) p at =
    let later = definition-at lemmas k (number + 1) preds definitions h.1 i p at in (later.0, later.1, subst (λ (n : ℕ). IsDefinitionOf lemmas k n p later.0) (one-on number i) later.2)
  where
    one-on : (n i : ℕ) → (n + 1) + i ≡ n + suc i
    one-on n i = omega arith

module _ (script : Script) (lemmas : List Framed) (k : ℕ) (definitions : List Definition) (some : 0 < k) (are : AreDefinitionsOf lemmas k 0 script.preds definitions) where
  abbrev I : ℕ → List Value → Value
  I = interpretation_of definitions

  from-none : (i : ℕ) → 0 + i ≡ i
  from-none i = omega arith

  found : (atom : GroundAtom) (known : IsSortedAtom script atom) → (d : Definition) × (slice_get definitions atom.pred ≡ Some d) × IsDefinitionOf lemmas k atom.pred known.declared d
  found atom known =
      let at = definition-at lemmas k 0 script.preds definitions are atom.pred known.declared known.there in
      (at.0, at.1, subst (λ (n : ℕ). IsDefinitionOf lemmas k n known.declared at.0) (from-none atom.pred) at.2)

  true-is-in : (atom : GroundAtom) → IsSortedAtom script atom → IsTrueAtom I atom → in_frame (lemmas_of lemmas) k (as_tuple atom) ≡ true
  true-is-in atom known true' =
      let at = found atom known in
      frame-in atom.pred k (numbers atom.values) lemmas
      (frame-of-true lemmas k atom.pred known.declared at.0 atom.values some at.2 known.sorted (sym (ap (λ (o : Option Definition). defined_value o atom.values) at.1) ∙ true'))

  in-is-true : (atom : GroundAtom) → IsSortedAtom script atom → in_frame (lemmas_of lemmas) k (as_tuple atom) ≡ true → IsTrueAtom I atom
  in-is-true atom known inside =
      let at = found atom known in
      ap (λ (o : Option Definition). defined_value o atom.values) at.1
      ∙ true-in-frame lemmas k atom.pred known.declared at.0 atom.values some at.2 known.sorted (holds-in-frame atom.pred k (numbers atom.values) lemmas inside)

  all-in : (atoms : List GroundAtom) → AllByRecursion (IsSortedAtom script) atoms → AllByRecursion (IsTrueAtom I) atoms → list_all (in_frame (lemmas_of lemmas) k) (map as_tuple atoms) ≡ true
  all-in [] known true' = refl
  all-in (atom ∷ atoms) known true' =
      ap (λ (b : Bool). b && list_all (in_frame (lemmas_of lemmas) k) (map as_tuple atoms)) (true-is-in atom known.0 true'.0) ∙ all-in atoms known.1 true'.1

  module _ (sys : Clauses) (made : IsMadeOf script sys) (arena : IsArena script.terms.nodes) (legal : IsLegalScript script) (solved : IsSolutionOver (instances sys) (lemmas_of lemmas) k) where
    -- an instance of the script is one of the system
    instance-of : (index : ℕ) (horn : HornClause) (values : List Value) → IsClauseOf script index horn → IsInstance script horn values
        → InstanceOf sys index (map as_tuple (premises_of script horn values)) (option_map as_tuple (conclusion_of script horn values))
    instance-of index horn values is instance =
        let point = point_of script index horn arena legal is values in
        let over = instance_extends script index horn arena legal is values instance in
        record {
          clause = normal_clause script horn;
          point = point;
          there = normal_there script sys made index horn is;
          instance = record { whole = over.each; guard = over.guard };
          has_body = body_tuples point (normal_clause script horn).atoms (premises_of script horn values) (same_atoms script index horn arena legal is values instance point over);
          has_head = head_tuple point (normal_clause script horn).head (conclusion_of script horn values) (same_head script index horn arena legal is values instance point over);
        }

    by-head : (index : ℕ) (body : List Ground) (head : Option GroundAtom) → InstanceOf sys index body (option_map as_tuple head) → list_all (in_frame (lemmas_of lemmas) k) body ≡ true → IsSortedHead script head
        → (IsTrueHead I head → ⊥) → ⊥
    by-head index body None instance inside known broken = (let out = solved.refuted index body instance in absurd (cc))
    by-head index body (Some atom) instance inside known broken = broken (in-is-true atom known (solved.closed index body (as_tuple atom) instance inside))

    not-broken : (index : ℕ) (horn : HornClause) (values : List Value) → IsClauseOf script index horn → Breaks I script horn values → ⊥
    not-broken index horn values is breaks =
        by-head index (map as_tuple (premises_of script horn values)) (conclusion_of script horn values) (instance-of index horn values is breaks.instance)
        (all-in (premises_of script horn values) (premises_sorted script index horn arena legal is values breaks.instance.sorts) breaks.body)
        (conclusion_sorted script index horn arena legal is values breaks.instance.sorts) breaks.head

    has-clause : (index : ℕ) (a : Assertion) → slice_get script.asserts index ≡ Some a → (horn : HornClause) × IsClauseOf script index horn
    has-clause index a at =
        let clause = some-clause script 0 script.asserts sys.clauses made.clauses index a at in
        let normal = normal_at script sys made index clause.0 clause.1 in (normal.horn, normal.is)

    solution : IsSolution script definitions
    solution =
        unbroken_solution script definitions arena legal (defines-each lemmas k 0 script.preds definitions are) (are-formulas lemmas k 0 script.preds definitions are) has-clause not-broken

pub frame-solves : (checked : Checked) (sys : Clauses) (lemmas : List Framed) (k : ℕ) (definitions : List Definition) → IsArena checked.script.terms.nodes → IsLegalScript checked.script
    → system_reading checked ≡ Ok sys → 0 < k → IsSolutionOver (instances sys) (lemmas_of lemmas) k → AreDefinitionsOf lemmas k 0 checked.script.preds definitions → IsSolution checked.script definitions
frame-solves checked sys lemmas k definitions arena legal read some solved are = solution checked.script lemmas k definitions some are sys (system_made checked sys read) arena legal solved
