-- What tokens were made of.
use Rattle.std.specs.Prelude.{ℕ, ℤ, List}
use Rattle.lin_atoms.specs.declared.lit.Lit.{Lit}
use Rattle.farkas_proof.specs.declared.refuted.Refuted.{Refuted}
use Rattle.chc_tokens.specs.declared.goal.Goal.{Goal}
use Rattle.chc_tokens.specs.declared.used.Used.{Used}
use Rattle.chc_tokens.specs.declared.refuting.Shown.{Shown}
use Rattle.chc_tokens.specs.declared.seeing.Seen.{Seen}
use Rattle.chc_tokens.specs.declared.keeping.NoLift.{NoLift}
use Rattle.chc_tokens.specs.declared.why.Why.{Why}

abbrev pub shown_clause : Shown → ℕ
shown_clause shown = shown.clause

abbrev pub shown_goal : Shown → Goal
shown_goal shown = shown.goal

abbrev pub shown_used : Shown → List Used
shown_used shown = shown.used

abbrev pub shown_proof : Shown → Refuted
shown_proof shown = shown.proof

abbrev pub seen_clause : Seen → ℕ
seen_clause seen = seen.clause

abbrev pub seen_point : Seen → List ℤ
seen_point seen = seen.point

abbrev pub kept_lemma : NoLift → List Lit
kept_lemma no_lift = no_lift.lemma

-- what keeps the lemma from being lifted: an instance that breaks it, or a query that was given up
abbrev pub kept_why : NoLift → Why
kept_why no_lift = no_lift.why
