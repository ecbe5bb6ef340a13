-- What a list of a frame's lemmas has so far.
use Rattle.std.specs.Prelude.{ℕ, ◌<◌, ◌↔◌, List}
use Rattle.std.specs.List.{AllPairs, Contains}
use Rattle.lemma_frames.specs.Frames.{IsInFrame}
use Rattle.lemma_frames.specs.declared.framed.Framed.{Framed}

-- those among the first i lemmas
pub record IsListed (lemmas : List Framed) (pred k i : ℕ) (numbers : List ℕ) : Type 0 where
  pub order : AllPairs (λ x y. x < y) numbers
  pub exact : (n : ℕ) → Contains numbers n ↔ ((n < i) × IsInFrame lemmas pred k n)
