use Rattle.std.proofs.Common.{[], ◌≡◌, ℕ}
use Rattle.std.specs.Prelude.{slice_get, Some}
use Rattle.term_tree.specs.declared.sort.Sort.TheVariants.{Bool as BoolSort}
use Rattle.term_tree.specs.declared.script.Assertion.{Assertion}
use Rattle.term_tree.specs.declared.script.Script.{Script}
use Rattle.term_tree.specs.Legal.{IsLegal}
use Rattle.horn_shape.specs.Clause.{IsLegalScript}
use Rattle.horn_shape.proofs.BreakingLemmas.{broken_is_false, false_is_broken, true_is_unbroken, unbroken_is_true}
use Rattle.horn_shape.proofs.InstanceLemmas.{all_get}
use Rattle.horn_shape.proofs.laws.breaking_instances.Goals as goal

own : (script : Script) (index : ℕ) (a : Assertion) → IsLegalScript script → slice_get script.asserts index ≡ Some a → IsLegal script.preds script.terms.nodes [] BoolSort a.term.0
own script index a legal is = all_get (λ b. IsLegal script.preds script.terms.nodes [] BoolSort b.term.0) script.asserts index a legal.asserts is

pub returns : goal.returns
returns c = record {
  true_ = λ script definitions index assertion clause arena legal is told defines formed. (
    true_is_unbroken script definitions index assertion clause arena is (own script index assertion legal is) told defines formed,
    unbroken_is_true script definitions index assertion clause arena is (own script index assertion legal is) told defines formed,
  );
  false_ = λ script definitions index assertion clause arena legal is told defines formed. (
    false_is_broken script definitions index assertion clause arena is (own script index assertion legal is) told defines formed,
    (λ broken. broken_is_false script definitions index assertion clause arena is (own script index assertion legal is) told defines formed broken.0 broken.1),
  );
}
