-- What is planned for the bytes that were read is planned for those of the source.
use Rattle.std.proofs.Common.{◌≡◌, ℕ, ◌+◌, ◌<◌, ◌^◌, List, ◌++◌, length, take, sym, subst, ap, arith, length-append}
use Rattle.std.specs.Prelude.{Some, None, IfSome, ◌≢◌}
use Rattle.std.specs.declared.option.Option.{Option}
use Rattle.base.specs.Limits.{most_bytes}
use Rattle.outside_io.specs.Bytes.{Appends, TakesCount}
use Rattle.outside_io.specs.Counts.{counted}
use Rattle.term_tree.specs.declared.refusal.Refusal.{Refusal}
use Rattle.term_tree.specs.declared.refusal.Kind.TheVariants.{TooLong}
use Rattle.sort_check.specs.Commands.{Command}
use Rattle.sort_check.specs.Scripts.{IsScript, IsRefused}
use Rattle.call_solve.specs.Clauses.{HasNoSystem, IsInputRefused, IsUnrefused}
use Rattle.call_solve.specs.Clauses.IsInputRefused.{illegal, too_long}
use Rattle.call_solve.specs.declared.plan.Plan.{Plan}
use Rattle.call_solve.specs.declared.plan.Plan.TheVariants.{Answered, Unfinished, Refused, Overlong, ReadFault, OutOfMemory}
use Rattle.chc_core.specs.Contents.{Contents}
use Rattle.call_words.specs.declared.limits.Limits.{Limits}
use Rattle.call_words.specs.declared.status.Status.{Status}
use Rattle.call_solve.specs.Headline.{IsBookFor, IsMeant, RefusesInput, WritesPart}
use Rattle.call_solve.specs.machinery.Plans.{IsPlan}

-- a refusal of what was read is one of all that the source had, where it tells its bytes
pub input_of : (left : Option (List ℕ)) (read : List ℕ) (refusal : Refusal) → IfSome left (λ bytes. read ≡ bytes) → IsInputRefused read refusal → IfSome left (λ bytes. IsInputRefused bytes refusal)
input_of None read refusal same h = tt
input_of (Some bytes) read refusal same h = subst (λ (b : List ℕ). IsInputRefused b refusal) same h

-- the bytes that were read are all that the source had, where it tells them
pub of_source : (limits : Limits) (left : Option (List ℕ)) (read : List ℕ) (plan : Plan) → IfSome left (λ bytes. read ≡ bytes) → IsPlan limits (Some read) plan → IsPlan limits left plan
of_source limits None read (Answered bytes book counts text) same h = (h.0, tt, h.2)
of_source limits None read (Unfinished bytes book counts) same h = (h.0, tt, h.2)
of_source limits None read (Refused bytes refusal line) same h = (h.0, tt, h.2)
of_source limits None read (Overlong refusal line) same h = (h.0, tt, h.2)
of_source limits None read ReadFault same h = tt
of_source limits None read (OutOfMemory bytes) same h = tt
of_source limits (Some all) read plan same h = subst (λ (bytes : List ℕ). IsPlan limits (Some bytes) plan) same h

-- a refusal of bytes that were read to their end
pub refused_read : (left : Option (List ℕ)) (old new : ℕ) (read : List ℕ) (refusal : Refusal) → IsInputRefused read refusal → IfSome left (λ bytes. read ≡ bytes) → (new ≢ counted old → ⊥)
    → RefusesInput left old new read refusal
refused_read left old new read refusal h same ends =
    record { input = input_of left read refusal same h; ended = λ _. h; long = λ other. absurd (ends other); bytes = λ _. h }

-- a refusal of bytes that are too many
pub refused_long : (left : Option (List ℕ)) (old new : ℕ) (read : List ℕ) (refusal : Refusal) → refusal ≡ record { kind = TooLong; offset = most_bytes; command = 0 }
    → IfSome left (λ bytes. IsInputRefused bytes refusal) → (new ≢ old → ⊥) → RefusesInput left old new read refusal
refused_long left old new read refusal is input ends =
    record { input = input; ended = λ other. absurd (ends other); long = λ _. is; bytes = λ other. absurd (other (ap (λ (r : Refusal). r.kind) is)) }

-- more bytes were taken than an input may have
pub of_too_long : (limits : Limits) (old new : Option (List ℕ)) (limit : ℕ) (plan : Plan) → limit ≡ 2 ^ 24 → TakesCount (limit + 1) old new
    → ((bytes : List ℕ) → 2 ^ 24 < length bytes → IsPlan limits (Some bytes) plan) → IsPlan limits None plan → IsPlan limits old plan
of_too_long limits old None limit plan is h told untold = subst (λ (left : Option (List ℕ)). IsPlan limits left plan) (sym h.2) untold
of_too_long limits old (Some rest) limit plan is h told untold =
    subst (λ (left : Option (List ℕ)). IsPlan limits left plan) (sym h.2) (told (h.0 ++ rest) (omega (arith, h.1, length-append h.0 rest)))

-- what is answered is not refused by the rules of commands
pub answered_only : ((text : List ℕ) (commands : List Command) (refusal : Refusal) → IsScript text commands → IsRefused text refusal → ⊥)
    → (limits : Limits) (left : Option (List ℕ)) (read : List ℕ) (b : Contents) (status : Status) → IsBookFor limits read b → IfSome left (λ bytes. read ≡ bytes)
    → IfSome left (λ bytes. (refusal : Refusal) → IsRefused bytes refusal → status ≢ Status.Answered)
answered_only not_both limits None read b status h same = tt
answered_only not_both limits (Some bytes) read b status h same = λ refusal refused e. not_both bytes h.commands refusal (subst (λ (b : List ℕ). IsScript b h.commands) same h.is_script) refused

-- what is answered has a system
has_system : (limits : Limits) (read : List ℕ) (b : Contents) → IsBookFor limits read b → HasNoSystem read → ⊥
has_system limits read b h none =
    let s = h.is_script in
    none (record { script = h.script; stop = None }) b.system (s.trees, s.stop, s.reading, record { commands = h.commands; outcome_is = s.legal; script = h.spelled }) h.of.system

pub answered_system : (limits : Limits) (left : Option (List ℕ)) (read : List ℕ) (b : Contents) (status : Status) → IsBookFor limits read b → IfSome left (λ bytes. read ≡ bytes)
    → IfSome left (λ bytes. HasNoSystem bytes → status ≢ Status.Answered)
answered_system limits None read b status h same = tt
answered_system limits (Some bytes) read b status h same = λ none e. has_system limits read b h (subst HasNoSystem (sym same) none)

not_refused : (bytes : List ℕ) (refusal : Refusal) → IsInputRefused bytes refusal → IsUnrefused bytes → ⊥
not_refused bytes refusal (too_long long is) h = let short = h.short in omega (arith, short, long)
not_refused bytes refusal (illegal checked short is read) h = h.legal checked refusal is read

-- what has no refusal is not refused
pub refused_only : (left : Option (List ℕ)) (refusal : Refusal) (status : Status) → IfSome left (λ bytes. IsInputRefused bytes refusal) → IfSome left (λ bytes. IsUnrefused bytes → status ≢ Status.Refused)
refused_only None refusal status h = tt
refused_only (Some bytes) refusal status h = λ unrefused e. not_refused bytes refusal h unrefused

-- what was written is the text that was meant, or a part of it
pub appended : (text written : List ℕ) (old new : Option (List ℕ)) → written ≡ text → Appends written old new → Appends text old new
appended text written old new same held = subst (λ (t : List ℕ). Appends t old new) same held

pub written_part : (limits : Limits) (left : Option (List ℕ)) (ends after : ℕ) (read : List ℕ) (book : Option Contents) (old new : Option (List ℕ)) (text written : List ℕ)
    → IsMeant limits left ends after read book text → written ≡ text → (n : ℕ) → n < length written → Appends (take n written) old new → WritesPart limits left ends after read book old new
written_part limits left ends after read book old new text written meant same n short held =
    record { text = text; meant = meant; count = n; part = subst (λ (t : List ℕ). n < length t) same short; held = subst (λ (t : List ℕ). Appends (take n t) old new) same held }
