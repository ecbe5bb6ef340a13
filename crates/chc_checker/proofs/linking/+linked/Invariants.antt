use Rattle.std.proofs.Common.{take}
use Rattle.lin_atoms.specs.declared.form.Form.TheViews.{And}
use Rattle.chc_checker.specs.machinery.Links.{Replaces}
use Rattle.chc_checker.proofs.linking.+linked.Given as goal

-- those so far stand for the parts so far
abbrev pub invariant-all_linked-loop-part : goal.invariant-all_linked-loop-part
invariant-all_linked-loop-part l = Replaces l.low l.high (And (take l.part-index l.parts)) (And l.made)
