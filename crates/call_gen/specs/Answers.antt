-- What came of a generated script.
use Rattle.std.specs.Prelude.{◌≡◌, ◌∷◌, ℕ, [], length}
use Rattle.term_tree.specs.declared.refusal.Checked.{Checked}
use Rattle.call_gen.specs.Summaries.{IsSearchedWith, IsSummed}
use Rattle.call_gen.specs.declared.answer.Generated.{Generated}
use Rattle.call_gen.specs.declared.answer.Generated.TheVariants.{Answered, Unfinished}

-- a book at its end, with what is printed, or one for which memory was wanted; and how many entries it has
abbrev pub IsMadeOf : Checked → ℕ → ℕ → Generated → Type 0
IsMadeOf checked units nodes (Answered book counts text) =
    IsSummed checked units nodes book text.items × (counts.items ≡ length book.journal ∷ [])
IsMadeOf checked units nodes (Unfinished book counts) =
    IsSearchedWith checked units nodes book × (counts.items ≡ length book.journal ∷ [])
