use Rattle.std.proofs.Common.{◌≡◌, length, drop}
use Rattle.obligation_tree.specs.Closing.{hits}
use Rattle.obligation_tree.specs.machinery.Passes.{settled_all}
use Rattle.obligation_tree.proofs.closing.settle_all.Given as goal

abbrev pub invariant-loop-number : goal.invariant-loop-number
invariant-loop-number l = (length l.nodes ≡ length l.initial.nodes) × (settled_all (hits l.cause) l.entry (drop l.number-index l.numbers) l.nodes ≡ settled_all (hits l.cause) l.entry l.numbers l.initial.nodes)
