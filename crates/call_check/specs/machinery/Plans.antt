-- What a call of `check` is to write, and why.
use Rattle.std.specs.Prelude.{◌≡◌, ℕ, List, [], IfSome, Bool, true, false}
use Rattle.std.specs.declared.option.Option.{Option}
use Rattle.base.specs.Limits.{most_bytes}
use Rattle.term_tree.specs.declared.refusal.Kind.TheVariants.{TooLong}
use Rattle.answer_text.specs.Lines.{error_text}
use Rattle.chc_checker.specs.declared.verdict.Verdict.{Verdict}
use Rattle.call_words.specs.declared.status.Status.{Status}
use Rattle.check_input.specs.Inputs.{JudgesInput}
use Rattle.call_check.specs.Calls.{IsJudged, IsRefusal, verdict_status}
use Rattle.call_check.specs.declared.found.Found.{Found}
use Rattle.call_check.specs.declared.found.Found.TheVariants.{Refused as FoundRefused, Valid as FoundValid, Wrong as FoundWrong, NotShown as FoundNotShown}
use Rattle.call_check.specs.declared.plan.Plan.{Plan}
use Rattle.call_check.specs.declared.plan.Plan.TheVariants.{Valid, Wrong, NotShown, Refused, Overlong, ReadFault, OutOfMemory}

-- a verdict of that status, with its text
abbrev pub HasVerdict : ℕ → List ℕ → Status → List ℕ → Type 0
HasVerdict nodes bytes status text = (verdict : Verdict) × JudgesInput nodes bytes verdict text × (status ≡ verdict_status verdict)

abbrev pub IsTold : ℕ → List ℕ → Found → Type 0
IsTold nodes bytes (FoundRefused refusal line) = ⊥
IsTold nodes bytes (FoundValid text) = HasVerdict nodes bytes Status.Answered text.items
IsTold nodes bytes (FoundWrong text) = HasVerdict nodes bytes Status.Wrong text.items
IsTold nodes bytes (FoundNotShown text) = HasVerdict nodes bytes Status.NotShown text.items

abbrev pub IsFound : ℕ → List ℕ → Found → Type 0
IsFound nodes bytes (FoundRefused refusal line) = IsRefusal bytes refusal × (line.items ≡ error_text refusal)
IsFound nodes bytes (FoundValid text) = IsJudged nodes bytes Status.Answered text.items
IsFound nodes bytes (FoundWrong text) = IsJudged nodes bytes Status.Wrong text.items
IsFound nodes bytes (FoundNotShown text) = IsJudged nodes bytes Status.NotShown text.items

abbrev pub IsPlan : ℕ → Option (List ℕ) → Plan → Type 0
IsPlan nodes left (Valid read text) = IsJudged nodes read.items Status.Answered text.items × IfSome left (λ bytes. read.items ≡ bytes)
IsPlan nodes left (Wrong read text) = IsJudged nodes read.items Status.Wrong text.items × IfSome left (λ bytes. read.items ≡ bytes)
IsPlan nodes left (NotShown read text) = IsJudged nodes read.items Status.NotShown text.items × IfSome left (λ bytes. read.items ≡ bytes)
IsPlan nodes left (Refused read refusal line) = IsRefusal read.items refusal × IfSome left (λ bytes. read.items ≡ bytes) × (line.items ≡ error_text refusal)
IsPlan nodes left (Overlong refusal line) =
    (refusal ≡ record { kind = TooLong; offset = most_bytes; command = 0 }) × IfSome left (λ bytes. IsRefusal bytes refusal) × (line.items ≡ error_text refusal)
IsPlan nodes left ReadFault = Unit {0}
IsPlan nodes left (OutOfMemory read) = Unit {0}

-- the bytes that the report keeps
abbrev pub read_of : Plan → List ℕ
read_of (Valid read text) = read.items
read_of (Wrong read text) = read.items
read_of (NotShown read text) = read.items
read_of (Refused read refusal line) = read.items
read_of (Overlong refusal line) = []
read_of ReadFault = []
read_of (OutOfMemory read) = read.items

-- the plan is not to refuse a text for its length
abbrev pub IsEnded : Plan → Type 0
IsEnded (Overlong refusal line) = ⊥
IsEnded _ = Unit {0}

-- the plan is not to refuse bytes that were read to their end
abbrev pub IsUnended : Plan → Type 0
IsUnended (Refused read refusal line) = ⊥
IsUnended _ = Unit {0}

-- the plan is that the source has failed
abbrev pub is_fault : Plan → Bool
is_fault ReadFault = true
is_fault _ = false
