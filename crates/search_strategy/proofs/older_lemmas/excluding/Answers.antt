use Rattle.search_strategy.specs.Older.{Excludes}
use Rattle.search_strategy.proofs.OlderLemmas.{best-more, best-same, untrue}
use Rattle.search_strategy.proofs.older_lemmas.excluding.Goals.{then-is_excluding, else-is_excluding}
use Rattle.search_strategy.proofs.older_lemmas.excluding.Goals as goal

pub loop-id-preserved : goal.loop-id-preserved
loop-id-preserved c = elim c.if-is_excluding.branch [
  | then-is_excluding w ↦ rw w.best-is (record { there = w.better.ensures.there; best = rw w.better.ensures.is (best-more c.args.frames.now.lemmas (Excludes c.args.frames.now.lemmas c.args.part.now c.args.tuple.now) c.loop-id.id c.loop-id.best c.loop-id.invariant.best (c.is_excluding.ensures.0 w.if-is_excluding.true)) })
  | else-is_excluding w ↦ rw w.best-is (record { there = c.loop-id.invariant.there; best = best-same c.args.frames.now.lemmas (Excludes c.args.frames.now.lemmas c.args.part.now c.args.tuple.now) c.loop-id.id c.loop-id.best c.loop-id.invariant.best (λ fit. untrue c.is_excluding.result w.if-is_excluding.false (c.is_excluding.ensures.1 fit)) })
]
