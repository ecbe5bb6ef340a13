use Rattle.std.proofs.Common.{◌≡◌, ◌<◌, ◌≤◌, ◌++◌, ◌-◌, ℕ, take, drop, length, get_or}
use Rattle.std.specs.Prelude.{ℤ}
use Rattle.lin_atoms.specs.machinery.Accumulator.{Total}
use Rattle.lin_atoms.specs.Algebra.{with_term}
use Rattle.farkas_proof.specs.machinery.Sum.{seen}
use Rattle.farkas_proof.proofs.sum.place.Given as goal

-- the terms before `low` stay before the new one, and that at `high` stays behind it
abbrev pub invariant-loop-low : goal.invariant-loop-low
invariant-loop-low l = record {
  before : (a : ℤ) → with_term l.variable a (seen l.terms) ≡ take l.low (seen l.terms) ++ with_term l.variable a (drop l.low (seen l.terms));
  behind : (d : ℕ × Total) → l.high < length l.terms → l.variable < (get_or l.terms l.high d).0;
  within : l.low ≤ l.high;
  length : l.high ≤ length l.terms;
}

abbrev pub decreases-loop-low : goal.decreases-loop-low
decreases-loop-low l = l.high - l.low
