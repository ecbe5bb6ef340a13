-- What is told of a lemma below the book's level, by what keeps it at a place.
use Rattle.std.specs.Prelude.{ℕ, ◌+◌, nat_lt, Option, Some, None, if◌then◌else◌}
use Rattle.clause_form.specs.System.{Clauses}
use Rattle.chc_tokens.specs.Kept.{kept_why}
use Rattle.chc_tokens.specs.declared.keeping.NoLift.{NoLift}
use Rattle.book_rules.specs.declared.by.By.{By}
use Rattle.book_rules.specs.declared.by.By.TheVariants.{Lemma}
use Rattle.book_rules.specs.Frames.{Framed}
use Rattle.book_rules.specs.RaiseRules.{is_no_lift_of}
use Rattle.book_rules.specs.Steps.{Why}
use Rattle.step_rules.specs.Tokens.{no_lift_of, why_of}

abbrev pub pair_told : (ℕ × Framed → Why → Option By) → ℕ × Framed → Option NoLift → Option By
pair_told tell e None = None
pair_told tell e (Some kept) = tell e (why_of (kept_why kept))

abbrev pub kept_told : Clauses → ℕ × Framed → Option NoLift → Option By
kept_told sys e None = Some (Lemma e.0)
kept_told sys e (Some kept) = if is_no_lift_of sys (e.1).lemma (no_lift_of kept) then None else Some (Lemma e.0)

-- nothing is told of a lemma of the level or more, and no place is its own
abbrev pub told_below : ℕ → Framed → Option By → Option By
told_below level e told = if nat_lt e.level level then told else None

abbrev pub place_after : ℕ → Framed → ℕ → ℕ
place_after level e place = if nat_lt e.level level then place + 1 else place
