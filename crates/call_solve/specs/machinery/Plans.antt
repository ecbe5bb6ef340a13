-- What a call of `solve` is to write, and why.
use Rattle.std.specs.Prelude.{◌≡◌, ℕ, List, [], IfSome, Bool, true, false}
use Rattle.std.specs.declared.option.Option.{Option}
use Rattle.base.specs.Limits.{most_bytes}
use Rattle.call_solve.specs.Clauses.{IsInputRefused}
use Rattle.call_solve.specs.declared.plan.Plan.{Plan}
use Rattle.call_solve.specs.declared.plan.Plan.TheVariants.{Answered, Unfinished, Refused, Overlong, ReadFault, OutOfMemory}
use Rattle.call_solve.specs.Headline.{AreCounts, IsAnswered, IsBookFor}
use Rattle.term_tree.specs.declared.refusal.Kind.TheVariants.{TooLong}
use Rattle.answer_text.specs.Lines.{error_text}
use Rattle.call_words.specs.declared.limits.Limits.{Limits}

abbrev pub IsPlan : Limits → Option (List ℕ) → Plan → Type 0
IsPlan limits left (Answered read book counts text) = IsAnswered limits read.items book text.items × IfSome left (λ bytes. read.items ≡ bytes) × AreCounts limits book counts.items
IsPlan limits left (Unfinished read book counts) = IsBookFor limits read.items book × IfSome left (λ bytes. read.items ≡ bytes) × AreCounts limits book counts.items
IsPlan limits left (Refused read refusal line) = IsInputRefused read.items refusal × IfSome left (λ bytes. read.items ≡ bytes) × (line.items ≡ error_text refusal)
IsPlan limits left (Overlong refusal line) =
    (refusal ≡ record { kind = TooLong; offset = most_bytes; command = 0 }) × IfSome left (λ bytes. IsInputRefused bytes refusal) × (line.items ≡ error_text refusal)
IsPlan limits left ReadFault = Unit {0}
IsPlan limits left (OutOfMemory read) = Unit {0}

-- the bytes that the report keeps
abbrev pub read_of : Plan → List ℕ
read_of (Answered read book counts text) = read.items
read_of (Unfinished read book counts) = read.items
read_of (Refused read refusal line) = read.items
read_of (Overlong refusal line) = []
read_of ReadFault = []
read_of (OutOfMemory read) = read.items

-- the plan is not to refuse a text for its length
abbrev pub IsEnded : Plan → Type 0
IsEnded (Overlong refusal line) = ⊥
IsEnded _ = Unit {0}

-- the plan is not to refuse bytes that were read to their end
abbrev pub IsUnended : Plan → Type 0
IsUnended (Refused read refusal line) = ⊥
IsUnended _ = Unit {0}

-- the plan is that the source has failed
abbrev pub is_fault : Plan → Bool
is_fault ReadFault = true
is_fault _ = false
