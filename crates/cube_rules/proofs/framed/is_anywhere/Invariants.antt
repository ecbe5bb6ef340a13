use Rattle.std.proofs.Common.{◌≡◌, drop}
use Rattle.book_rules.specs.Frames.{frame_has}
use Rattle.cube_rules.specs.Views.{lemmas_of}
use Rattle.cube_rules.proofs.framed.is_anywhere.Given as goal

-- the rest decides
abbrev pub invariant-loop-id : goal.invariant-loop-id
invariant-loop-id l = frame_has (drop l.id (lemmas_of l.frames.lemmas)) l.k (record { pred = l.pred; cube = l.lemma }) ≡ frame_has (lemmas_of l.frames.lemmas) l.k (record { pred = l.pred; cube = l.lemma })
