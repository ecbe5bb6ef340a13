use Rattle.std.proofs.Common.{◌≡◌, drop}
use Rattle.term_check.specs.Rules.{first_not}
use Rattle.term_check.proofs.rules.first_not.Given as goal

abbrev pub invariant-loop-part : goal.invariant-loop-part
invariant-loop-part l = first_not l.sort (drop l.part-index l.parts) ≡ first_not l.sort l.parts
