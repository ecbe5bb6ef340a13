-- What is written of a generated script.
use Rattle.std.proofs.Common.{◌≡◌, ℕ, ◌<◌, List, length, take, sym, subst, ap, arith}
use Rattle.std.specs.Prelude.{Some, None, IfSome, ◌≢◌}
use Rattle.std.specs.declared.option.Option.{Option}
use Rattle.outside_io.specs.Bytes.{Appends}
use Rattle.answer_text.specs.Lines.{memory_text}
use Rattle.chc_core.specs.Contents.{Contents}
use Rattle.call_words.specs.declared.status.Status.{Status}
use Rattle.book_answers.specs.Wanting.{wanting_text}
use Rattle.call_gen.specs.Summaries.{IsMeantToSum, WritesPartOfSummary}
use Rattle.call_gen.specs.Summaries.IsMeantToSum.{memory}

-- a prefix of a text, and not all of it
abbrev pub HasPart : List ℕ → Option (List ℕ) → Option (List ℕ) → Type 0
HasPart text old new = (n : ℕ) × (n < length text) × Appends (take n text) old new

-- what was written is the text that was meant, or a part of it
pub appended : (text written : List ℕ) (old new : Option (List ℕ)) → written ≡ text → Appends written old new → Appends text old new
appended text written old new same held = subst (λ (t : List ℕ). Appends t old new) same held

pub part_of : (depth seed : ℕ) (book : Option Contents) (text written : List ℕ) (old new : Option (List ℕ)) → IsMeantToSum depth seed book text → written ≡ text → HasPart written old new
    → WritesPartOfSummary depth seed book old new
part_of depth seed book text written old new meant same part =
    let p : HasPart text old new = subst (λ (t : List ℕ). HasPart t old new) same part in
    record { text = text; meant = meant; count = p.0; part = p.1; held = p.2 }

-- where there is no book
module _ (book : Option Contents) (none : book ≡ None) (old new : Option (List ℕ)) where
  pub want_part : (depth seed : ℕ) → HasPart memory_text old new → WritesPartOfSummary depth seed book old new
  want_part depth seed part = record { text = memory_text; meant = memory (sym (ap wanting_text none)); count = part.0; part = part.1; held = part.2 }

  pub want_memory : Appends memory_text old new → Appends (wanting_text book) old new
  want_memory held = subst (λ (t : List ℕ). Appends t old new) (sym (ap wanting_text none)) held

  pub want_book : (P : Contents → Type 0) → IfSome book P
  want_book P = subst (λ (o : Option Contents). IfSome o P) (sym none) tt

-- which statuses there are

pub not_other : (s n : Status) → s ≡ n → (n ≡ Status.WriteFault → ⊥) → s ≢ Status.WriteFault
not_other s n is other = λ four. other (subst (λ (k : Status). k ≡ Status.WriteFault) is four)

pub only_memory : (s n : Status) → (s ≢ Status.WriteFault → s ≡ Status.Memory) → s ≡ n → (n ≡ Status.WriteFault → ⊥) → (n ≡ Status.Memory → ⊥) → ⊥
only_memory s n ends is four five =
    five (subst (λ (k : Status). k ≡ Status.Memory) is (ends (not_other s n is four)))
