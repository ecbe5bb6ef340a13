use Rattle.std.proofs.Common.{◌≡◌, drop}
use Rattle.std.specs.List.{list_any}
use Rattle.book_rules.specs.Same.{same_cube}
use Rattle.interpretations.specs.machinery.Cubes.{cubes_of}
use Rattle.interpretations.proofs.kept.is_among.Given as goal

-- those to come decide
abbrev pub invariant-loop-one : goal.invariant-loop-one
invariant-loop-one l = list_any (same_cube l.lemma) (cubes_of (drop l.one-index l.kept)) ≡ list_any (same_cube l.lemma) (cubes_of l.kept)
