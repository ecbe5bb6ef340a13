-- The lines of facts derive false, and then there is no solution.
use Rattle.std.proofs.Common.{◌≡◌, ℕ, List, [], ◌∷◌, ◌++◌, ap, sym, subst, arith}
use Rattle.std.specs.Prelude.{slice_get, Some, None, option_map}
use Rattle.term_tree.specs.declared.definition.Definition.{Definition}
use Rattle.term_tree.specs.declared.refusal.Checked.{Checked}
use Rattle.term_tree.specs.declared.script.Script.{Script}
use Rattle.term_tree.specs.Arena.{IsArena}
use Rattle.term_tree.specs.Solution.{IsSolution}
use Rattle.horn_shape.specs.Clause.{IsLegalScript}
use Rattle.horn_shape.specs.Derivation.{IsDerivation, height_over, heights_of}
use Rattle.horn_shape.proofs.DerivationLemmas.{one_answer}
use Rattle.clause_form.specs.System.{Clauses}
use Rattle.book_rules.specs.State.{Fact}
use Rattle.answer_text.specs.declared.answer.Line.{Line}
use Rattle.cert_derivations.specs.Steps.{AreClosed, as_atom, script_step}
use Rattle.cert_derivations.proofs.HeightLemmas.{last_step}
use Rattle.cert_derivations.proofs.StepLemmas.{facts_derive}
use Rattle.cert_derivations.proofs.SystemLemmas.{system_made}
use Rattle.cert_derivations.specs.Claims.{AreFactsOf, DeriveFalse, EndInFalse}
use Rattle.cert_derivations.specs.Lines.{fact_lines, lines_of}

derive-at : (checked : Checked) (sys : Clauses) (facts : List Fact) (before : List ℕ) (n : ℕ) (fact : Fact) → AreFactsOf checked sys facts → AreClosed facts (before ++ n ∷ [])
    → slice_get facts n ≡ Some fact → fact.conclusion ≡ None → DeriveFalse checked.script (fact_lines sys facts (before ++ n ∷ []))
derive-at checked sys facts before n fact given closed there is =
    let last = last_step sys facts given.recorded before n fact closed there in
    record {
      steps = last.0;
      last = script_step sys (before ++ n ∷ []) fact;
      said = ap lines_of last.1;
      derivation = subst (IsDerivation checked.script) last.1 (facts_derive checked.script sys (system_made checked sys given.system) given.arena given.legal facts given.recorded (before ++ n ∷ []) closed);
      is_false = ap (option_map (as_atom sys)) is;
    }

pub derive-false : (checked : Checked) (sys : Clauses) (facts : List Fact) (among : List ℕ) → AreFactsOf checked sys facts → EndInFalse facts among → DeriveFalse checked.script (fact_lines sys facts among)
derive-false checked sys facts among given ends =
    subst (λ (numbers : List ℕ). DeriveFalse checked.script (fact_lines sys facts numbers)) (sym ends.ends)
    (derive-at checked sys facts ends.before ends.last ends.fact given (subst (AreClosed facts) ends.ends ends.closed) ends.there ends.is_false)

pub no_solution : (script : Script) (lines : List Line) (definitions : List Definition) → IsArena script.terms.nodes → IsLegalScript script → DeriveFalse script lines → IsSolution script definitions → ⊥
no_solution script lines definitions arena legal derive solution =
    one_answer script definitions arena legal solution (height_over (heights_of derive.steps) derive.last)
    (record { steps = derive.steps; last = derive.last; derivation = derive.derivation; concludes = derive.is_false; within = omega arith })
