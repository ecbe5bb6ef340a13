use Rattle.std.proofs.Common.{◌≡◌, ◌<◌, ℕ, length, get_or}
use Rattle.std.specs.Prelude.{◌*ℤ◌, ◌<ℤ◌, pos}
use Rattle.lin_atoms.specs.Ratio.{Fraction}
use Rattle.simplex_core.specs.Run.{coordinate_at, moment}
use Rattle.simplex_core.proofs.ends.ratios.Given as goal

-- the values so far are those of the columns
abbrev pub invariant-loop-value : goal.invariant-loop-value
invariant-loop-value l = record {
  each : length l.made.items ≡ l.value-index;
  positive : (k : ℕ) (d : Fraction) → k < l.value-index → pos 0 <ℤ (get_or l.made.items k d).den;
  same : (k : ℕ) (d : Fraction) → k < l.value-index → (get_or l.made.items k d).num *ℤ (coordinate_at (moment l.t l.standings) k).den ≡ (coordinate_at (moment l.t l.standings) k).num *ℤ (get_or l.made.items k d).den;
}
