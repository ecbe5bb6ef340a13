use Rattle.std.proofs.Common.{◌≡◌, true}
use Rattle.std.specs.List.{list_all}
use Rattle.lin_atoms.specs.Linear.{lin_is_below}
use Rattle.bench_calls.proofs.vertices.forms.Given as goal

abbrev pub invariant-loop-row : goal.invariant-loop-row
invariant-loop-row l = list_all (lin_is_below l.variables) l.lins.items ≡ true
