use Rattle.std.proofs.Common.{◌<◌, length}
use Rattle.std.specs.Prelude.{IfSome}
use Rattle.search_entry.proofs.finding.find.Given as goal

-- the best so far is there
abbrev pub invariant-loop-id : goal.invariant-loop-id
invariant-loop-id l = IfSome l.best (λ n. n < length l.frames.lemmas)
