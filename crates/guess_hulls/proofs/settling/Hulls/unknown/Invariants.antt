use Rattle.std.proofs.Common.{◌≡◌, map, take}
use Rattle.guess_hulls.specs.Hulls.{equations_of, unknown}
use Rattle.guess_hulls.proofs.settling.Hulls.unknown.Given as goal

abbrev pub invariant-loop : goal.invariant-loop
invariant-loop l = map equations_of l.known.items ≡ unknown (take l.index l.sys.preds)
