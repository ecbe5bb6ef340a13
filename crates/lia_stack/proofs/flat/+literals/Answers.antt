use Rattle.std.proofs.Common.{List, ◌++◌, ap, sym, ◌∙◌}
use Rattle.std.specs.List.{flat_map}
use Rattle.std.proofs.lemmas.List.{take_all}
use Rattle.lin_atoms.specs.declared.form.Form.{Form}
use Rattle.refutation_trees.specs.Flatten.{literals}
use Rattle.refutation_trees.proofs.FlattenLemmas.{literals-And}
use Rattle.lia_stack.proofs.StepLemmas.{flat-more}
use Rattle.lia_stack.proofs.flat.+literals.Goals as goal

pub push_literals-returns-in-And : goal.push_literals-returns-in-And
push_literals-returns-in-And t c = rw (c.in-And.is, literals-And, sym c.as_slice.ensures) c.push_all_literals.ensures

pub push_all_literals-loop-part-preserved : goal.push_all_literals-loop-part-preserved
push_all_literals-loop-part-preserved t c = flat-more literals c.args.parts.now c.part-item.result c.loop-part.part-index c.args.lits.now.items c.loop-part.lits.items c.push_literals.new.lits.items c.loop-part-test.true c.part-item.is c.loop-part.invariant c.in_ok-push_literals.ensures

pub push_all_literals-returns : goal.push_all_literals-returns
push_all_literals-returns t c = c.loop-part.invariant ∙ ap (λ (parts : List Form). c.args.lits.now.items ++ flat_map literals parts) (take_all c.loop-part.part-index c.args.parts.now c.loop-part-test.false)
