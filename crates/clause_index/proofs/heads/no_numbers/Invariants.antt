use Rattle.std.proofs.Common.{◌≡◌, [], replicate}
use Rattle.clause_index.proofs.heads.no_numbers.Given as goal

abbrev pub invariant-loop : goal.invariant-loop
invariant-loop l = l.made.items ≡ replicate l.counter []
