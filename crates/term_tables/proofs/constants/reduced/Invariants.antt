use Rattle.std.proofs.Common.{◌≡◌, ◌≤◌, ◌+◌, ◌*◌, ◌^◌, drop}
use Rattle.std.specs.Prelude.{nat_abs}
use Rattle.term_tables.specs.machinery.Table.{signed_sum}
use Rattle.term_tables.proofs.constants.reduced.Given as goal

-- what the rest leaves from here is what all leave
abbrev pub invariant-loop-n : goal.invariant-loop-n
invariant-loop-n l = record {
  told : signed_sum l.total (drop l.n-index l.others) ≡ signed_sum l.first l.others;
  small : nat_abs l.total ≤ (l.n-index + 1) * 2 ^ 63;
}
