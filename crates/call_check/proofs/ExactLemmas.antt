-- A verdict is told of no script that is refused, and a refusal of none that isn't.
use Rattle.std.proofs.Common.{◌≡◌, ℕ, ◌<◌, List, take, inl, inr, sym, subst, arith}
use Rattle.std.specs.Prelude.{Some, None, IfSome, ◌≢◌}
use Rattle.std.specs.declared.option.Option.{Option}
use Rattle.term_tree.specs.declared.refusal.Refusal.{Refusal}
use Rattle.sort_check.specs.Commands.{Command}
use Rattle.sort_check.specs.Scripts.{IsRefused, IsScript}
use Rattle.call_words.specs.declared.status.Status.{Status}
use Rattle.call_words.specs.declared.status.Status.TheVariants.{Answered, Wrong, NotShown}
use Rattle.check_input.specs.Inputs.{HasNoSystemOfCheck, HasRefusedScript, IsParted, IsReadAs}
use Rattle.call_check.specs.Calls.{IsJudged, IsRefusal, IsUnrefusedCheck, TellsVerdict}
use Rattle.call_check.specs.Calls.IsRefusal.{script, too_long}

abbrev pub OneScript : Type 0
OneScript = (input : List ℕ) (script other answer last : ℕ) → IsParted input script answer → IsParted input other last → script ≡ other

abbrev pub NotBoth : Type 0
NotBoth = (text : List ℕ) (commands : List Command) (refusal : Refusal) → IsScript text commands → IsRefused text refusal → ⊥

judged_only : OneScript → NotBoth → (nodes : ℕ) (bytes : List ℕ) (status : Status) (text : List ℕ) (refusal : Refusal) → IsJudged nodes bytes status text → HasRefusedScript bytes refusal → ⊥
judged_only one not_both nodes bytes status text refusal h refused =
    let judges = h.judges in
    let same = one bytes judges.script refused.script judges.answer refused.answer judges.read_as.parted refused.parted in
    not_both (take refused.script bytes) h.commands refusal (subst (λ (n : ℕ). IsScript (take n bytes) h.commands) same h.is_script) refused.refused

-- what is judged isn't refused
pub judged_others : OneScript → NotBoth → (nodes : ℕ) (left : Option (List ℕ)) (read : List ℕ) (status now : Status) (text : List ℕ) → IsJudged nodes read status text
    → IfSome left (λ bytes. read ≡ bytes) → IfSome left (λ bytes. (refusal : Refusal) → HasRefusedScript bytes refusal → TellsVerdict now → ⊥)
judged_others one not_both nodes None read status now text h same = tt
judged_others one not_both nodes (Some bytes) read status now text h same =
    λ refusal refused told. judged_only one not_both nodes read status text refusal h (subst (λ (b : List ℕ). HasRefusedScript b refusal) (sym same) refused)

-- what is judged has a system
pub judged_system : (nodes : ℕ) (left : Option (List ℕ)) (read : List ℕ) (status now : Status) (text : List ℕ) → IsJudged nodes read status text → IfSome left (λ bytes. read ≡ bytes)
    → IfSome left (λ bytes. HasNoSystemOfCheck bytes → TellsVerdict now → ⊥)
judged_system nodes None read status now text h same = tt
judged_system nodes (Some bytes) read status now text h same = λ none told.
    let judges = h.judges in
    none judges.script judges.answer judges.checked judges.system (subst (λ (b : List ℕ). IsReadAs b judges.script judges.answer judges.checked) same judges.read_as) judges.accepted

-- where no verdict is told
pub untold_others : (left : Option (List ℕ)) (now : Status) → (TellsVerdict now → ⊥) → IfSome left (λ bytes. (refusal : Refusal) → HasRefusedScript bytes refusal → TellsVerdict now → ⊥)
untold_others None now untold = tt
untold_others (Some bytes) now untold = λ refusal refused. untold

pub untold_system : (left : Option (List ℕ)) (now : Status) → (TellsVerdict now → ⊥) → IfSome left (λ bytes. HasNoSystemOfCheck bytes → TellsVerdict now → ⊥)
untold_system None now untold = tt
untold_system (Some bytes) now untold = λ none. untold

-- this status is that of no verdict
abbrev pub IsOther : Status → Type 0
IsOther Answered = ⊥
IsOther Wrong = ⊥
IsOther NotShown = ⊥
IsOther _ = Unit {0}

pub untold : (now : Status) → IsOther now → TellsVerdict now → ⊥
untold now other (inl e) = subst IsOther e other
untold now other (inr (inl e)) = subst IsOther e other
untold now other (inr (inr e)) = subst IsOther e other

not_refused : (bytes : List ℕ) (refusal : Refusal) → IsRefusal bytes refusal → IsUnrefusedCheck bytes → ⊥
not_refused bytes refusal (too_long long is) h = let short = h.short in omega (arith, short, long)
not_refused bytes refusal (script short refused) h = h.script refused.script refused.answer refused.checked refusal refused.read_as refused.refused

-- what has no refusal is not refused
pub refused_only : (left : Option (List ℕ)) (refusal : Refusal) (status : Status) → IfSome left (λ bytes. IsRefusal bytes refusal) → IfSome left (λ bytes. IsUnrefusedCheck bytes → status ≢ Status.Refused)
refused_only None refusal status h = tt
refused_only (Some bytes) refusal status h = λ unrefused e. not_refused bytes refusal h unrefused
