-- What a call of `check` promises.
use Rattle.std.specs.Prelude.{◌≡◌, ◌≢◌, ◌≤◌, ◌<◌, ℕ, List, length, take, IfSome, ◌⊎◌}
use Rattle.std.specs.declared.option.Option.{Option}
use Rattle.base.specs.Limits.{most_bytes}
use Rattle.outside_io.specs.Bytes.{Appends}
use Rattle.outside_io.specs.Counts.{counted}
use Rattle.term_tree.specs.declared.refusal.Refusal.{Refusal}
use Rattle.term_tree.specs.declared.refusal.Kind.TheVariants.{TooLong}
use Rattle.sort_check.specs.Commands.{Command}
use Rattle.sort_check.specs.Scripts.{IsScript, IsScriptOf}
use Rattle.answer_text.specs.Lines.{error_text, memory_text}
use Rattle.chc_checker.specs.declared.verdict.Verdict.{Verdict}
use Rattle.chc_checker.specs.declared.verdict.Verdict.TheVariants.{Valid, Wrong, NotShown}
use Rattle.call_words.specs.declared.status.Status.{Status}
use Rattle.check_input.specs.Inputs.{HasNoRefusal, JudgesInput, RefusesScript}

-- the refusal of an input: that it has too many bytes, or that of its script
pub data IsRefusal (input : List ℕ) (refusal : Refusal) : Type 0 where
  too_long : most_bytes < length input → refusal ≡ record { kind = TooLong; offset = most_bytes; command = 0 } → IsRefusal input refusal
  script : length input ≤ most_bytes → RefusesScript input refusal → IsRefusal input refusal

-- no refusal of it
pub record IsUnrefusedCheck (input : List ℕ) : Type 0 where
  pub short : length input ≤ most_bytes
  pub script : HasNoRefusal input

-- the status that a verdict ends the call with
abbrev pub verdict_status : Verdict → Status
verdict_status Valid = Status.Answered
verdict_status (Wrong place) = Status.Wrong
verdict_status (NotShown place evidence) = Status.NotShown

-- a call that ends with this status tells a verdict
abbrev pub TellsVerdict : Status → Type 0
TellsVerdict status = (status ≡ Status.Answered) ⊎ (status ≡ Status.Wrong) ⊎ (status ≡ Status.NotShown)

-- a verdict on the answer that stands in the bytes, with this status and this text; and the script that is answered is the one which
-- the bytes before the marker spell
pub record IsJudged (nodes : ℕ) (bytes : List ℕ) (status : Status) (text : List ℕ) : Type 0 where
  pub verdict : Verdict
  pub judges : JudgesInput nodes bytes verdict text
  pub status_is : status ≡ verdict_status verdict
  pub commands : List Command
  pub is_script : IsScript (take judges.script bytes) commands
  pub spelled : IsScriptOf commands judges.checked.script

-- the sink holds the verdict's text behind what it held, and all that the source had was read
pub record Checks (nodes : ℕ) (left : Option (List ℕ)) (read : List ℕ) (status : Status) (old new : Option (List ℕ)) : Type 0 where
  pub text : List ℕ
  pub judged : IsJudged nodes read status text
  pub whole : IfSome left (λ bytes. read ≡ bytes)
  pub held : Appends text old new

-- The refusal is that of the bytes left in the source: of those that were read, where the source's count of ends rose, and
-- that they are too many, where it didn't.
pub record RefusesLeft (left : Option (List ℕ)) (old new : ℕ) (read : List ℕ) (refusal : Refusal) : Type 0 where
  pub input : IfSome left (λ bytes. IsRefusal bytes refusal)
  pub ended : new ≢ old → IsRefusal read refusal
  pub long : new ≢ counted old → refusal ≡ record { kind = TooLong; offset = most_bytes; command = 0 }
  pub bytes : refusal.kind ≢ TooLong → IsRefusal read refusal

-- the sink holds its line
pub record RefusesCheck (left : Option (List ℕ)) (ends after : ℕ) (read : List ℕ) (refusal : Refusal) (old new : Option (List ℕ)) : Type 0 where
  pub refused : RefusesLeft left ends after read refusal
  pub held : Appends (error_text refusal) old new

-- the text that the call was to write
pub data IsMeantByCheck (nodes : ℕ) (left : Option (List ℕ)) (old new : ℕ) (read : List ℕ) (text : List ℕ) : Type 0 where
  verdict : (status : Status) → IsJudged nodes read status text → IfSome left (λ bytes. read ≡ bytes) → IsMeantByCheck nodes left old new read text
  error : (refusal : Refusal) → RefusesLeft left old new read refusal → text ≡ error_text refusal → IsMeantByCheck nodes left old new read text
  memory : text ≡ memory_text → IsMeantByCheck nodes left old new read text

-- the sink has failed: a prefix of the text that was meant is held, and not all of it
pub record WritesPartOfCheck (nodes : ℕ) (left : Option (List ℕ)) (ends after : ℕ) (read : List ℕ) (old new : Option (List ℕ)) : Type 0 where
  pub text : List ℕ
  pub meant : IsMeantByCheck nodes left ends after read text
  pub count : ℕ
  pub part : count < length text
  pub held : Appends (take count text) old new
