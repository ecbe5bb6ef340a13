use Rattle.std.proofs.Common.{◌≡◌, drop}
use Rattle.std.specs.List.{list_all}
use Rattle.clause_queries.specs.Kept.{lemma_is_kept}
use Rattle.clause_queries.proofs.keeping.frames_are_kept.Given as goal

abbrev pub invariant-loop-id : goal.invariant-loop-id
invariant-loop-id l = list_all lemma_is_kept (drop l.id l.frames.lemmas) ≡ list_all lemma_is_kept l.frames.lemmas
