-- What is told of a call, by the command that the words call.
use Rattle.std.specs.Prelude.{◌≡◌, ◌<◌, ℕ, List, [], take, length, ◌⊎◌}
use Rattle.std.specs.declared.option.Option.{Option}
use Rattle.outside_io.specs.Bytes.{Appends}
use Rattle.call_words.specs.Words.{IsCall, IsCheckCall, IsGenCall, IsNoCall, IsNoCheckCall, IsNoGenCall}
use Rattle.call_words.specs.declared.limits.Limits.{Limits}
use Rattle.answer_text.specs.Lines.{memory_text, usage_text}

-- the words are no command
pub record IsNoCommand (words : List (List ℕ)) : Type 0 where
  pub solve : IsNoCall words
  pub check : IsNoCheckCall words
  pub gen : IsNoGenCall words

-- the words are a call of `solve`, and this holds of its limits
abbrev pub OfSolve : List (List ℕ) → (Limits → Type 0) → Type 0
OfSolve words told = (limits : Limits) × IsCall words limits × told limits

-- the words are a call of `check`, and this holds of the nodes at which it gives forms up
abbrev pub OfCheck : List (List ℕ) → (ℕ → Type 0) → Type 0
OfCheck words told = (nodes : ℕ) × IsCheckCall words nodes × told nodes

-- the words are a call of `gen`, and this holds of its depth and seed
abbrev pub OfGen : List (List ℕ) → (ℕ → ℕ → Type 0) → Type 0
OfGen words told = (depth : ℕ) × (seed : ℕ) × IsGenCall words depth seed × told depth seed

-- one of the two that read a script
abbrev pub ByReader : List (List ℕ) → (Limits → Type 0) → (ℕ → Type 0) → Type 0
ByReader words solves checks = OfSolve words solves ⊎ OfCheck words checks

-- one of the two that open a book
abbrev pub BySearch : List (List ℕ) → (Limits → Type 0) → (ℕ → ℕ → Type 0) → Type 0
BySearch words solves gens = OfSolve words solves ⊎ OfGen words gens

-- one of all three
abbrev pub ByCommand : List (List ℕ) → (Limits → Type 0) → (ℕ → Type 0) → (ℕ → ℕ → Type 0) → Type 0
ByCommand words solves checks gens = OfSolve words solves ⊎ OfCheck words checks ⊎ OfGen words gens

-- a prefix of that text is held, and not all of it
pub record HoldsPart (text : List ℕ) (old new : Option (List ℕ)) : Type 0 where
  pub count : ℕ
  pub part : count < length text
  pub held : Appends (take count text) old new

-- a prefix of the usage line is held, for words that are no command, and nothing was read
pub record HoldsPartOfUsage (words : List (List ℕ)) (read : List ℕ) (old new : Option (List ℕ)) : Type 0 where
  pub none : IsNoCommand words
  pub unread : read ≡ []
  pub part : HoldsPart usage_text old new

-- a prefix of the line for want of memory is held, since there was none to read the words, and nothing was read
pub record HoldsPartOfWant (read : List ℕ) (old new : Option (List ℕ)) : Type 0 where
  pub unread : read ≡ []
  pub part : HoldsPart memory_text old new
