-- A text has one system of clauses, or one refusal by clauses, and the same derivations and solutions, however its terms are numbered.
use Rattle.std.proofs.Common.{◌≡◌, ℕ, List, [], ap, sym, ◌∙◌, subst}
use Rattle.std.specs.Prelude.{Option}
use Rattle.sexp_read.specs.declared.tree.Tree.{Tree}
use Rattle.sexp_read.specs.declared.tree.TextStop.{TextStop}
use Rattle.sexp_read.proofs.Public.{one_reading}
use Rattle.term_tree.specs.declared.definition.Definition.{Definition}
use Rattle.term_tree.specs.declared.refusal.Checked.{Checked}
use Rattle.term_tree.specs.Solution.{IsSolution}
use Rattle.sort_check.specs.Checked.{IsCheckedText}
use Rattle.sort_check.specs.Commands.{Command}
use Rattle.sort_check.specs.Scripts.{IsScriptOf, Outcome, outcome}
use Rattle.horn_shape.specs.Derivation.{IsDerivableWithin, IsDerivation, Step}
use Rattle.horn_shape.specs.Instance.{GroundAtom}
use Rattle.clause_normal.specs.Reading.{system_reading}
use Rattle.clause_readings.specs.Layout.{AreCommandsLaid}
use Rattle.clause_readings.proofs.CertificateLemmas.{derivable_passes, derivation_passes, solution_passes}
use Rattle.clause_readings.proofs.CommandLemmas.{commands_laid}
use Rattle.clause_readings.proofs.SystemLemmas.{same_system}
use Rattle.clause_readings.proofs.TwinLemmas.{AreTwins, all_twins}

-- the same commands spell both
pub record AreOfOneText (checked other : Checked) : Type 0 where
  pub commands : List Command
  pub laid : AreCommandsLaid commands
  pub ours : IsScriptOf commands checked.script
  pub theirs : IsScriptOf commands other.script
  pub stops : checked.stop ≡ other.stop

module _ (text : List ℕ) (checked other : Checked) (x : IsCheckedText text checked) (y : IsCheckedText text other) where
  pub of_one_text : AreOfOneText checked other
  of_one_text =
      let same = one_reading text x.0 y.0 x.1 y.1 x.2 y.2 in
      let ours : Outcome = record { commands = x.3.commands; refusal = checked.stop } in
      let theirs : Outcome = record { commands = y.3.commands; refusal = other.stop } in
      let outcomes : ours ≡ theirs =
      sym x.3.outcome_is ∙ ap (λ (ts : List Tree). outcome text x.1 [] ts) same.0 ∙ ap (λ (stop : Option TextStop). outcome text stop [] y.0) same.1 ∙ y.3.outcome_is in
      let commands : x.3.commands ≡ y.3.commands = ap (λ (o : Outcome). o.commands) outcomes in
      record {
        commands = x.3.commands;
        laid = commands_laid text x.1 0 0 x.0 x.2.0 [] x.3.commands checked.stop x.2.1 tt x.3.outcome_is;
        ours = x.3.script;
        theirs = subst (λ (cs : List Command). IsScriptOf cs other.script) (sym commands) y.3.script;
        stops = ap (λ (o : Outcome). o.refusal) outcomes;
      }

  pub one_system : system_reading checked ≡ system_reading other
  one_system = let one = of_one_text in same_system one.commands checked other one.laid one.ours one.theirs one.stops

  pub one_list : checked.script.preds ≡ other.script.preds
  one_list = let one = of_one_text in one.ours.preds ∙ sym one.theirs.preds

  pub text_twins : AreTwins checked.script other.script 0 checked.script.asserts other.script.asserts
  text_twins = let one = of_one_text in all_twins checked.script other.script one.commands one.ours one.theirs one.laid

  pub same_derivations : (steps : List Step) → IsDerivation checked.script steps → IsDerivation other.script steps
  same_derivations steps h = derivation_passes checked.script other.script text_twins steps h

  pub same_derivable : (h : ℕ) (conclusion : Option GroundAtom) → IsDerivableWithin checked.script h conclusion → IsDerivableWithin other.script h conclusion
  same_derivable h conclusion is = derivable_passes checked.script other.script text_twins h conclusion is

  pub same_solutions : (definitions : List Definition) → IsSolution checked.script definitions → IsSolution other.script definitions
  same_solutions definitions is = solution_passes checked.script other.script definitions one_list text_twins is
