-- Which of the lemmas that a book has is the best to take beside one that is learnt.
use Rattle.std.specs.Prelude.{◌≡◌, ◌<◌, ◌≤◌, ◌⊎◌, ℕ, ℤ, List, length, true, nat_lt, if◌then◌else◌, Option, Some, None}
use Rattle.cube_forms.specs.Cubes.{cube_holds}
use Rattle.lemma_frames.specs.Frames.{lemma_of, level_of, pred_of}
use Rattle.lemma_frames.specs.declared.framed.Framed.{Framed}
use Rattle.step_rules.specs.declared.lemma_step.part.LemmaPart.{LemmaPart}

-- a lemma on the predicate of the one that is learnt, and at a lower level
pub record IsLower (lemmas : List Framed) (part : LemmaPart) (n : ℕ) : Type 0 where
  pub pred : pred_of lemmas n ≡ part.pred
  pub lower : level_of lemmas n < part.level

-- one that excludes the tuple
abbrev pub Excludes : List Framed → LemmaPart → List ℤ → ℕ → Type 0
Excludes lemmas part tuple n = IsLower lemmas part n × (cube_holds tuple (lemma_of lemmas n) ≡ true)

-- of a higher level, or of the same level and no older
abbrev pub IsNoWorse : List Framed → ℕ → ℕ → Type 0
IsNoWorse lemmas best n = (level_of lemmas n < level_of lemmas best) ⊎ ((level_of lemmas n ≡ level_of lemmas best) × (n ≤ best))

-- the better one of the best so far and a later one
abbrev pub better_of : List Framed → Option ℕ → ℕ → ℕ
better_of lemmas None n = n
better_of lemmas (Some best) n = if nat_lt (level_of lemmas n) (level_of lemmas best) then best else n

-- of the lemmas with numbers below k the best one that fits, or none where none does
abbrev pub IsBest : List Framed → (ℕ → Type 0) → ℕ → Option ℕ → Type 0
IsBest lemmas fits k None = (n : ℕ) → n < k → fits n → ⊥
IsBest lemmas fits k (Some best) = (best < k) × fits best × ((n : ℕ) → n < k → fits n → IsNoWorse lemmas best n)

-- the number and the level of a lemma that has the cube of a lemma to be learnt, on its predicate and at a lower level
pub record IsOlder (lemmas : List Framed) (part : LemmaPart) (id level : ℕ) : Type 0 where
  pub there : id < length lemmas
  pub pred : pred_of lemmas id ≡ part.pred
  pub lemma : lemma_of lemmas id ≡ part.lemma
  pub level_is : level_of lemmas id ≡ level
  pub lower : level < part.level
