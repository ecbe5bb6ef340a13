use Rattle.std.proofs.Common.{◌≡◌, drop}
use Rattle.std.specs.List.{list_all}
use Rattle.lin_atoms.specs.Truth.{lit_truth}
use Rattle.lia_guesses.proofs.judging.all_hold.Given as goal

-- the literals to come decide
abbrev pub invariant-loop-lit : goal.invariant-loop-lit
invariant-loop-lit l = list_all (lit_truth l.point) (drop l.lit-index l.lits) ≡ list_all (lit_truth l.point) l.lits
