use Rattle.std.proofs.Common.{◌≡◌, ◌≤◌, drop, length, true}
use Rattle.std.specs.Prelude.{IfSome}
use Rattle.std.specs.Option.{option_map}
use Rattle.model_project.specs.Elimination.{gap, gaps_are_short, nearest}
use Rattle.model_project.proofs.bounds.nearest.Given as goal

-- the nearest of the literals from there on
abbrev pub invariant-loop-left : goal.invariant-loop-left
invariant-loop-left l = record {
  told : option_map (λ b. b.lin.now) l.best ≡ nearest l.model l.below l.variable (drop l.left l.lits);
  gap : IfSome l.best (λ b. b.gap ≡ gap l.model b.lin.now);
  small : gaps_are_short l.model l.below l.variable (drop l.left l.lits) ≡ true;
  within : l.left ≤ length l.lits;
}

abbrev pub decreases-loop-left : goal.decreases-loop-left
decreases-loop-left l = l.left
