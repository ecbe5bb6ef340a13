-- What is planned for the bytes that were read is planned for those of the source.
use Rattle.std.proofs.Common.{◌≡◌, ℕ, ◌+◌, ◌<◌, ◌^◌, List, ◌++◌, length, take, sym, subst, ap, arith, length-append}
use Rattle.std.specs.Prelude.{Some, None, IfSome, ◌≢◌}
use Rattle.std.specs.declared.option.Option.{Option}
use Rattle.base.specs.Limits.{most_bytes}
use Rattle.outside_io.specs.Bytes.{Appends, TakesCount}
use Rattle.outside_io.specs.Counts.{counted}
use Rattle.term_tree.specs.declared.refusal.Refusal.{Refusal}
use Rattle.term_tree.specs.declared.refusal.Kind.TheVariants.{TooLong}
use Rattle.call_check.specs.Calls.{IsMeantByCheck, IsRefusal, RefusesLeft, WritesPartOfCheck}
use Rattle.call_check.specs.declared.plan.Plan.{Plan}
use Rattle.call_check.specs.declared.plan.Plan.TheVariants.{Valid, Wrong, NotShown, Refused, Overlong, ReadFault, OutOfMemory}
use Rattle.call_check.specs.machinery.Plans.{IsPlan}

-- a refusal of what was read is one of all that the source had, where it tells its bytes
pub input_of : (left : Option (List ℕ)) (read : List ℕ) (refusal : Refusal) → IfSome left (λ bytes. read ≡ bytes) → IsRefusal read refusal → IfSome left (λ bytes. IsRefusal bytes refusal)
input_of None read refusal same h = tt
input_of (Some bytes) read refusal same h = subst (λ (b : List ℕ). IsRefusal b refusal) same h

-- the bytes that were read are all that the source had, where it tells them
pub of_source : (nodes : ℕ) (left : Option (List ℕ)) (read : List ℕ) (plan : Plan) → IfSome left (λ bytes. read ≡ bytes) → IsPlan nodes (Some read) plan → IsPlan nodes left plan
of_source nodes None read (Valid bytes text) same h = (h.0, tt)
of_source nodes None read (Wrong bytes text) same h = (h.0, tt)
of_source nodes None read (NotShown bytes text) same h = (h.0, tt)
of_source nodes None read (Refused bytes refusal line) same h = (h.0, tt, h.2)
of_source nodes None read (Overlong refusal line) same h = (h.0, tt, h.2)
of_source nodes None read ReadFault same h = tt
of_source nodes None read (OutOfMemory bytes) same h = tt
of_source nodes (Some all) read plan same h = subst (λ (bytes : List ℕ). IsPlan nodes (Some bytes) plan) same h

-- a refusal of bytes that were read to their end
pub refused_read : (left : Option (List ℕ)) (old new : ℕ) (read : List ℕ) (refusal : Refusal) → IsRefusal read refusal → IfSome left (λ bytes. read ≡ bytes) → (new ≢ counted old → ⊥)
    → RefusesLeft left old new read refusal
refused_read left old new read refusal h same ends =
    record { input = input_of left read refusal same h; ended = λ _. h; long = λ other. absurd (ends other); bytes = λ _. h }

-- a refusal of bytes that are too many
pub refused_long : (left : Option (List ℕ)) (old new : ℕ) (read : List ℕ) (refusal : Refusal) → refusal ≡ record { kind = TooLong; offset = most_bytes; command = 0 }
    → IfSome left (λ bytes. IsRefusal bytes refusal) → (new ≢ old → ⊥) → RefusesLeft left old new read refusal
refused_long left old new read refusal is input ends =
    record { input = input; ended = λ other. absurd (ends other); long = λ _. is; bytes = λ other. absurd (other (ap (λ (r : Refusal). r.kind) is)) }

-- more bytes were taken than an input may have
pub of_too_long : (nodes : ℕ) (old new : Option (List ℕ)) (limit : ℕ) (plan : Plan) → limit ≡ 2 ^ 24 → TakesCount (limit + 1) old new
    → ((bytes : List ℕ) → 2 ^ 24 < length bytes → IsPlan nodes (Some bytes) plan) → IsPlan nodes None plan → IsPlan nodes old plan
of_too_long nodes old None limit plan is h told untold = subst (λ (left : Option (List ℕ)). IsPlan nodes left plan) (sym h.2) untold
of_too_long nodes old (Some rest) limit plan is h told untold =
    subst (λ (left : Option (List ℕ)). IsPlan nodes left plan) (sym h.2) (told (h.0 ++ rest) (omega (arith, h.1, length-append h.0 rest)))

-- what was written is the text that was meant, or a part of it
pub appended : (text written : List ℕ) (old new : Option (List ℕ)) → written ≡ text → Appends written old new → Appends text old new
appended text written old new same held = subst (λ (t : List ℕ). Appends t old new) same held

pub written_part : (nodes : ℕ) (left : Option (List ℕ)) (ends after : ℕ) (read : List ℕ) (old new : Option (List ℕ)) (text written : List ℕ) → IsMeantByCheck nodes left ends after read text
    → written ≡ text → (n : ℕ) → n < length written → Appends (take n written) old new → WritesPartOfCheck nodes left ends after read old new
written_part nodes left ends after read old new text written meant same n short held =
    record { text = text; meant = meant; count = n; part = subst (λ (t : List ℕ). n < length t) same short; held = subst (λ (t : List ℕ). Appends (take n t) old new) same held }
