use Rattle.std.proofs.Common.{◌++◌, ap, sym, ◌∙◌, List}
use Rattle.std.specs.List.{flat_map}
use Rattle.std.proofs.lemmas.List.{take_all}
use Rattle.lin_atoms.specs.declared.form.Form.{Form}
use Rattle.refutation_trees.specs.Flatten.{disjunctions}
use Rattle.farkas_proof.specs.machinery.Walk.{opened}
use Rattle.refutation_trees.proofs.FlattenLemmas.{disjunctions-And, disjunctions-Or, part-more}
use Rattle.farkas_proof.proofs.WalkLemmas.{opened-push}
use Rattle.farkas_proof.proofs.flatten.+disjunctions.Goals as goal

pub push_disjunctions-returns-in-And : goal.push_disjunctions-returns-in-And
push_disjunctions-returns-in-And t c = rw (c.in-And.is, disjunctions-And, sym c.as_slice.ensures) c.push_all_disjunctions.ensures

pub push_disjunctions-returns-in_ok-push-in-Or : goal.push_disjunctions-returns-in_ok-push-in-Or
push_disjunctions-returns-in_ok-push-in-Or t c = rw (c.in-Or.is, disjunctions-Or) (ap opened c.in_ok-push-in-Or.ensures.items ∙ opened-push c.args.cases.now.items _)

pub push_all_disjunctions-loop-part-preserved : goal.push_all_disjunctions-loop-part-preserved
push_all_disjunctions-loop-part-preserved t c =
    part-more disjunctions c.args.parts.now c.loop-part.part-index c.part-item.result (opened c.args.cases.now.items) (opened c.loop-part.cases.items) (opened c.push_disjunctions.new.cases.items) c.loop-part-test.true c.part-item.is c.loop-part.invariant c.in_ok-push_disjunctions.ensures

pub push_all_disjunctions-returns : goal.push_all_disjunctions-returns
push_all_disjunctions-returns t c = c.loop-part.invariant ∙ ap (λ (parts : List Form). opened c.args.cases.now.items ++ flat_map disjunctions parts) (take_all c.loop-part.part-index c.args.parts.now c.loop-part-test.false)
