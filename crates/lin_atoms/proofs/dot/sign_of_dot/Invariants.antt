use Rattle.std.proofs.Common.{◌≡◌, ◌+◌, ◌*◌, ◌^◌, ◌<◌, ◌≤◌, drop}
use Rattle.std.specs.Prelude.{◌+ℤ◌, ◌*ℤ◌, pos, nat_abs}
use Rattle.lin_atoms.specs.Dot.{dot}
use Rattle.lin_atoms.proofs.dot.sign_of_dot.Given as goal

-- what is added, with the products to come, and how great the two sums can be by now
abbrev pub invariant-loop-i : goal.invariant-loop-i
invariant-loop-i l = record {
  value : l.high *ℤ pos (2 ^ 64) +ℤ pos l.low +ℤ dot (drop l.i l.a) (drop l.i l.b) ≡ dot l.a l.b +ℤ l.c;
  high : nat_abs l.high ≤ (l.i + 1) * 2 ^ 63;
  low : l.low < (l.i + 1) * 2 ^ 64;
}
