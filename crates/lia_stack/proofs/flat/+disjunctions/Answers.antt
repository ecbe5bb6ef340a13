use Rattle.std.proofs.Common.{List, [], ◌∷◌, ◌++◌, ap, sym, ◌∙◌}
use Rattle.std.specs.List.{flat_map}
use Rattle.std.proofs.lemmas.List.{take_all}
use Rattle.lin_atoms.specs.declared.form.Form.{Form}
use Rattle.refutation_trees.specs.Flatten.{disjunctions}
use Rattle.refutation_trees.proofs.FlattenLemmas.{disjunctions-And, disjunctions-Or}
use Rattle.lia_stack.proofs.StepLemmas.{flat-more}
use Rattle.lia_stack.proofs.flat.+disjunctions.Goals as goal

pub push_disjunctions-returns-in-And : goal.push_disjunctions-returns-in-And
push_disjunctions-returns-in-And t c = rw (c.in-And.is, disjunctions-And, sym c.as_slice.ensures) c.push_all_disjunctions.ensures

pub push_disjunctions-returns-in_ok-push-in-Or : goal.push_disjunctions-returns-in_ok-push-in-Or
push_disjunctions-returns-in_ok-push-in-Or t c = rw (c.in-Or.is, disjunctions-Or) (c.in_ok-push-in-Or.ensures.items ∙ ap (λ (parts : List Form). c.args.cases.now.items ++ parts ∷ []) c.new.ensures)

pub push_all_disjunctions-loop-part-preserved : goal.push_all_disjunctions-loop-part-preserved
push_all_disjunctions-loop-part-preserved t c = flat-more disjunctions c.args.parts.now c.part-item.result c.loop-part.part-index c.args.cases.now.items c.loop-part.cases.items c.push_disjunctions.new.cases.items c.loop-part-test.true c.part-item.is c.loop-part.invariant c.in_ok-push_disjunctions.ensures

pub push_all_disjunctions-returns : goal.push_all_disjunctions-returns
push_all_disjunctions-returns t c = c.loop-part.invariant ∙ ap (λ (parts : List Form). c.args.cases.now.items ++ flat_map disjunctions parts) (take_all c.loop-part.part-index c.args.parts.now c.loop-part-test.false)
