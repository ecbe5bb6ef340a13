use Rattle.std.proofs.Common.{◌≡◌, ◌<◌, ℕ, [], get_or}
use Rattle.std.specs.List.{All}
use Rattle.lemma_frames.specs.Frames.{level_of}
use Rattle.lemma_frames.proofs.bare.is_bare.Given as goal

abbrev pub invariant-loop-row : goal.invariant-loop-row
invariant-loop-row l = (k : ℕ) → k < l.row-index → All (λ n. level_of l.lemmas n ≡ l.level → ⊥) (get_or l.rows k [])
