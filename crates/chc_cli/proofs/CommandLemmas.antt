-- What is told of a part that there may be, as a refusal or a book, is told by the command that the words call.
use Rattle.std.proofs.Common.{◌≡◌, ◌∙◌, ℕ, List, sym, inl, inr}
use Rattle.std.specs.Prelude.{Some, None, IfSome, ◌≢◌}
use Rattle.std.specs.declared.option.Option.{Option}
use Rattle.term_tree.specs.declared.refusal.Refusal.{Refusal}
use Rattle.chc_core.specs.Contents.{Contents}
use Rattle.call_words.specs.Words.{IsCall, IsCheckCall, IsGenCall}
use Rattle.call_words.specs.declared.limits.Limits.{Limits}
use Rattle.call_words.specs.declared.status.Status.{Status}
use Rattle.chc_cli.specs.Commands.{ByReader, BySearch}

pub refused_solve : (words : List (List ℕ)) (found : Option Refusal) (solves : Refusal → Limits → Type 0) (checks : Refusal → ℕ → Type 0) (limits : Limits) → IsCall words limits
    → IfSome found (λ refusal. solves refusal limits) → IfSome found (λ refusal. ByReader words (solves refusal) (checks refusal))
refused_solve words None solves checks limits call h = tt
refused_solve words (Some refusal) solves checks limits call h = inl (limits, call, h)

pub refused_check : (words : List (List ℕ)) (found : Option Refusal) (solves : Refusal → Limits → Type 0) (checks : Refusal → ℕ → Type 0) (nodes : ℕ) → IsCheckCall words nodes
    → IfSome found (λ refusal. checks refusal nodes) → IfSome found (λ refusal. ByReader words (solves refusal) (checks refusal))
refused_check words None solves checks nodes call h = tt
refused_check words (Some refusal) solves checks nodes call h = inr (nodes, call, h)

pub book_of_solve : (words : List (List ℕ)) (found : Option Contents) (solves : Contents → Limits → Type 0) (gens : Contents → ℕ → ℕ → Type 0) (limits : Limits) → IsCall words limits
    → IfSome found (λ b. solves b limits) → IfSome found (λ b. BySearch words (solves b) (gens b))
book_of_solve words None solves gens limits call h = tt
book_of_solve words (Some b) solves gens limits call h = inl (limits, call, h)

pub book_of_gen : (words : List (List ℕ)) (found : Option Contents) (solves : Contents → Limits → Type 0) (gens : Contents → ℕ → ℕ → Type 0) (depth seed : ℕ) → IsGenCall words depth seed
    → IfSome found (λ b. gens b depth seed) → IfSome found (λ b. BySearch words (solves b) (gens b))
book_of_gen words None solves gens depth seed call h = tt
book_of_gen words (Some b) solves gens depth seed call h = inr (depth, seed, call, h)

-- where there is none

pub no_refusal : (found : Option Refusal) (told : Refusal → Type 0) → found ≡ None → IfSome found told
no_refusal None told none = tt
no_refusal (Some refusal) told none = absurd (cc)

pub no_book : (found : Option Contents) (told : Contents → Type 0) → found ≡ None → IfSome found told
no_book None told none = tt
no_book (Some b) told none = absurd (cc)

-- words that are no command end with the usage line, or a sink that has failed
pub only : (status other : Status) → (status ≢ Status.WriteFault → status ≡ Status.Usage) → status ≡ other → (other ≡ Status.WriteFault → ⊥) → (other ≡ Status.Usage → ⊥) → ⊥
only status other ends is four two = two (sym is ∙ ends (λ e. four (sym is ∙ e)))

-- and without memory to read them with want of memory, or such a sink
pub wanting : (status other : Status) → (status ≢ Status.WriteFault → status ≡ Status.Memory) → status ≡ other → (other ≡ Status.WriteFault → ⊥) → (other ≡ Status.Memory → ⊥) → ⊥
wanting status other ends is four five = five (sym is ∙ ends (λ e. four (sym is ∙ e)))

-- and a call of `gen` with a summary, or one of these two
pub made : (status other : Status) → (status ≢ Status.WriteFault → status ≢ Status.Memory → status ≡ Status.Answered) → status ≡ other
    → (other ≡ Status.WriteFault → ⊥) → (other ≡ Status.Memory → ⊥) → (other ≡ Status.Answered → ⊥) → ⊥
made status other ends is four five zero = zero (sym is ∙ ends (λ e. four (sym is ∙ e)) (λ e. five (sym is ∙ e)))
