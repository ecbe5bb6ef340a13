-- Which lemmas define a predicate: those of a frame on it (Hoder and Bjorner, "Generalized property directed reachability",
-- section 2: a frame that is closed is a solution).
use Rattle.std.specs.Prelude.{◌≡◌, ℕ, List, [], ◌∷◌, ◌++◌, map, if◌then◌else◌}
use Rattle.std.specs.List.{list_any}
use Rattle.lin_atoms.specs.declared.lit.Lit.{Lit}
use Rattle.lemma_frames.specs.Frames.{IsFrame, lemma_of}
use Rattle.lemma_frames.specs.declared.framed.Framed.{Framed}
use Rattle.book_rules.specs.Same.{same_cube}

-- each of the cubes that isn't among those before it, in order
abbrev pub first_ones : List (List Lit) → List (List Lit) → List (List Lit)
first_ones before [] = []
first_ones before (cube ∷ cubes) =
    if list_any (same_cube cube) before then first_ones before cubes else cube ∷ first_ones (before ++ cube ∷ []) cubes

-- the cubes of the lemmas of F(k) on the predicate, in order of number. One with the same literals in the same order as that of
-- a lemma with a smaller number is left out
pub record AreKept (lemmas : List Framed) (pred k : ℕ) (cubes : List (List Lit)) : Type 0 where
  pub numbers : List ℕ
  pub frame : IsFrame lemmas pred k numbers
  pub are : cubes ≡ first_ones [] (map (lemma_of lemmas) numbers)
