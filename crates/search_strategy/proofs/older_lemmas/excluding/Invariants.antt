use Rattle.std.proofs.Common.{◌<◌, length}
use Rattle.std.specs.Prelude.{IfSome}
use Rattle.search_strategy.specs.Older.{Excludes, IsBest}
use Rattle.search_strategy.proofs.older_lemmas.excluding.Given as goal

-- the best so far
abbrev pub invariant-loop-id : goal.invariant-loop-id
invariant-loop-id l = record {
  there : IfSome l.best (λ n. n < length l.frames.lemmas);
  best : IsBest l.frames.lemmas (Excludes l.frames.lemmas l.part l.tuple) l.id l.best;
}
