use Rattle.std.proofs.Common.{◌≡◌, take}
use Rattle.farkas_proof.proofs.walk.copies.Given as goal

abbrev pub invariant-loop-lit : goal.invariant-loop-lit
invariant-loop-lit l = l.made.items ≡ take l.lit-index l.lits
