-- What hangs under what, and so what a cause closes besides what it closes by itself.
use Rattle.std.specs.Prelude.{◌≡◌, ℕ, ◌<◌, List, Bool, true, Some, slice_get}
use Rattle.book_rules.specs.State.{Obligation}

-- an obligation, or one that it hangs under: its parent, that one's parent, and so on up to the root
pub data HangsUnder (os : List Obligation) (above : ℕ) : ℕ → Type 0 where
  itself : HangsUnder os above above
  beneath : (number : ℕ) (o : Obligation) → 0 < number → slice_get os number ≡ Some o → HangsUnder os above o.parent → HangsUnder os above number

-- the cause tells of the obligation, or of one that it hangs under
pub record FallsBy (cause : Obligation → Bool) (os : List Obligation) (number : ℕ) : Type 0 where
  pub above : ℕ
  pub obligation : Obligation
  pub there : slice_get os above ≡ Some obligation
  pub told : cause obligation ≡ true
  pub hangs : HangsUnder os above number
