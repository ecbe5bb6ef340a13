-- The rows of the predicates, beside the lemmas.
use Rattle.std.specs.Prelude.{ℕ, ◌<◌, List, [], length, get_or}
use Rattle.lemma_frames.specs.Frames.{pred_of, IsUpper}
use Rattle.lemma_frames.specs.declared.framed.Framed.{Framed}

-- each row has all lemmas of its predicate, in order, and each lemma stands on one of the predicates
pub record IsIndexed (rows : List (List ℕ)) (lemmas : List Framed) : Type 0 where
  pub each : (pred : ℕ) → pred < length rows → IsUpper lemmas pred 0 (get_or rows pred [])
  pub known : (n : ℕ) → n < length lemmas → pred_of lemmas n < length rows
