use Rattle.std.proofs.Common.{◌≡◌, true, map}
use Rattle.std.specs.List.{list_all, range_with_len}
use Rattle.lin_atoms.specs.Linear.{is_long}
use Rattle.simplex_core.specs.Run.{moment, stood_at}
use Rattle.simplex_core.proofs.place.values.Given as goal

-- the values so far
abbrev pub invariant-loop-column : goal.invariant-loop-column
invariant-loop-column l = record {
  is : l.made.items ≡ map (stood_at (moment l.t l.standings)) (range_with_len 0 l.column);
  long : list_all is_long l.made.items ≡ true;
}
