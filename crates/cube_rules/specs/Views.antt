-- The lemmas of which the rules speak, as they stand in frames.
use Rattle.std.specs.Prelude.{ℕ, List, map}
use Rattle.lemma_frames.specs.Frames.{lemma_of, level_of, pred_of}
use Rattle.lemma_frames.specs.declared.framed.Framed.{Framed as KeptLemma}
use Rattle.book_rules.specs.Frames.{Framed}

-- a kept lemma as the rules know it: the denial of a cube about a predicate, with its level
abbrev pub framed_of : KeptLemma → Framed
framed_of f = record { lemma = record { pred = f.pred; cube = f.lemma }; level = f.level }

-- the kept lemmas as the rules know them, in order of number
abbrev pub lemmas_of : List KeptLemma → List Framed
lemmas_of lemmas = map framed_of lemmas

-- the lemma of a number
abbrev pub framed_at : List KeptLemma → ℕ → Framed
framed_at lemmas n = record { lemma = record { pred = pred_of lemmas n; cube = lemma_of lemmas n }; level = level_of lemmas n }
