use Rattle.std.proofs.Common.{◌≡◌, drop}
use Rattle.int_rows.specs.Node.{end_of_quotients}
use Rattle.lia_guesses.proofs.judging.end_of.Given as goal

-- the rest is numbered on
abbrev pub invariant-loop-lit : goal.invariant-loop-lit
invariant-loop-lit l = end_of_quotients l.quotient (drop l.lit-index l.lits) ≡ end_of_quotients l.end l.lits
