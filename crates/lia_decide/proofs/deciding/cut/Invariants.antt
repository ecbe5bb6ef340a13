use Rattle.std.proofs.Common.{◌≡◌, length}
use Rattle.lia_decide.proofs.deciding.cut.Given as goal

-- one value for each variable so far
abbrev pub invariant-cut : goal.invariant-cut
invariant-cut l = length l.made.items ≡ l.variable
