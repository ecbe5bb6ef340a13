use Rattle.std.proofs.Common.{◌≡◌, [], ◌++◌, drop, map}
use Rattle.lemma_frames.specs.Frames.{lemma_of}
use Rattle.interpretations.specs.Kept.{first_ones}
use Rattle.interpretations.specs.machinery.Cubes.{cubes_of}
use Rattle.interpretations.proofs.kept.kept_lemmas.Given as goal

-- those so far, and of those to come the ones that are not among them
abbrev pub invariant-loop-number : goal.invariant-loop-number
invariant-loop-number l =
    cubes_of l.kept.items ++ first_ones (cubes_of l.kept.items) (map (lemma_of l.frames.lemmas) (drop l.number-index l.number-items)) ≡ first_ones [] (map (lemma_of l.frames.lemmas) l.number-items)
