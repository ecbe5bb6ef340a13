-- A derivation by one of two scripts that the same commands spell is one by the other, and so is a solution.
use Rattle.std.proofs.Common.{◌≡◌, ℕ, ◌+◌, List, [], ◌∷◌, ◌++◌, map, true, ap, ◌∙◌, subst}
use Rattle.std.specs.Prelude.{Option, Some}
use Rattle.std.specs.List.{AllByRecursion}
use Rattle.term_tree.specs.declared.definition.Definition.{Definition}
use Rattle.term_tree.specs.declared.scalar.Value.TheVariants.{Bool as Truth}
use Rattle.term_tree.specs.declared.script.Assertion.{Assertion}
use Rattle.term_tree.specs.declared.script.Pred.{Pred}
use Rattle.term_tree.specs.declared.script.Script.{Script}
use Rattle.term_tree.specs.Solution.{AreFormulas, DefinesEach, IsSolution, IsTrueUnder, interpretation_of}
use Rattle.term_tree.specs.Value.{environment_of}
use Rattle.horn_shape.specs.Derivation.{IsDerivableWithin, IsDerivation, IsDerivationAfter, IsStep, Step}
use Rattle.horn_shape.specs.Instance.{GroundAtom}
use Rattle.clause_readings.proofs.InstanceLemmas.{instance_passes, partner}
use Rattle.clause_readings.proofs.MeetingLemmas.{IsMet}
use Rattle.clause_readings.proofs.TwinLemmas.{AreTwins, IsTwin}
use Rattle.clause_readings.proofs.ValueLemmas.{value_passes}

module _ (s t : Script) (twins : AreTwins s t 0 s.asserts t.asserts) where
  step_passes : (earlier : List Step) (step : Step) → IsStep s earlier step → IsStep t earlier step
  step_passes earlier step x =
      let p = partner s t twins step.assertion x.clause x.clause_is in
      let env = environment_of step.values in
      record {
        clause = p.other;
        clause_is = p.is;
        instance = instance_passes s t twins step.assertion x.clause step.values p x.instance;
        premises = x.premises ∙ ap (map (λ (atom : GroundAtom). Some (Some atom))) (p.atoms env);
        conclusion = x.conclusion ∙ p.head env;
      }

  steps_pass : (earlier steps : List Step) → IsDerivationAfter s earlier steps → IsDerivationAfter t earlier steps
  steps_pass earlier [] h = tt
  steps_pass earlier (step ∷ steps) h = (step_passes earlier step h.0, steps_pass (earlier ++ step ∷ []) steps h.1)

  pub derivation_passes : (steps : List Step) → IsDerivation s steps → IsDerivation t steps
  derivation_passes steps h = steps_pass [] steps h

  pub derivable_passes : (h : ℕ) (conclusion : Option GroundAtom) → IsDerivableWithin s h conclusion → IsDerivableWithin t h conclusion
  derivable_passes h conclusion x = record {
    steps = x.steps;
    last = x.last;
    derivation = derivation_passes (x.steps ++ x.last ∷ []) x.derivation;
    concludes = x.concludes;
    within = x.within;
  }

module _ (s t : Script) (definitions : List Definition) where
  truth_passes : (index : ℕ) (a b : Assertion) → IsTwin s t index a b → IsTrueUnder definitions s a → IsTrueUnder definitions t b
  truth_passes index a b twin is env =
      value_passes s.terms.nodes t.terms.nodes (IsMet s.terms t.terms twin.tree a.term.0 b.term.0) twin.scripts.arena twin.scripts.other_arena twin.scripts.like
      (interpretation_of definitions) a.term.0 b.term.0 twin.assertions.terms env (Truth true) (is env)

  pub truths_pass : (index : ℕ) (asserts others : List Assertion) → AreTwins s t index asserts others → AllByRecursion (IsTrueUnder definitions s) asserts → AllByRecursion (IsTrueUnder definitions t) others
  truths_pass index [] [] twins h = tt
  truths_pass index [] (b ∷ others) twins h = absurd twins
  truths_pass index (a ∷ asserts) [] twins h = absurd twins
  truths_pass index (a ∷ asserts) (b ∷ others) twins h = (truth_passes index a b twins.0 h.0, truths_pass (index + 1) asserts others twins.1 h.1)

  pub solution_passes : s.preds ≡ t.preds → AreTwins s t 0 s.asserts t.asserts → IsSolution s definitions → IsSolution t definitions
  solution_passes preds twins x = record {
    defined = subst (λ (ps : List Pred). DefinesEach 0 ps definitions) preds x.defined;
    formed = subst (λ (ps : List Pred). AreFormulas ps definitions) preds x.formed;
    satisfied = truths_pass 0 s.asserts t.asserts twins x.satisfied;
  }
