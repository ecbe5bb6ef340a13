use Rattle.std.proofs.Common.{◌≡◌, drop}
use Rattle.chc_tokens.specs.Queries.{has_used}
use Rattle.chc_tokens.proofs.atoms.has_used.Given as goal

-- the lemmas to come decide
abbrev pub invariant-loop-one : goal.invariant-loop-one
invariant-loop-one l = has_used l.atoms (drop l.one-index l.used) ≡ has_used l.atoms l.used
