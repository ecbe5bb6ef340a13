-- What the tokens of a step stand for, as the plain data of the rules.
use Rattle.std.specs.Prelude.{List, map, Option, Some, None}
use Rattle.lin_atoms.specs.declared.lit.Lit.{Lit}
use Rattle.refutation_trees.specs.KeptEvidence.{given_form, given_evidence}
use Rattle.refutation_trees.specs.declared.gave_up.GaveUp.{GaveUp}
use Rattle.chc_tokens.specs.Kept.{kept_lemma, kept_why, seen_clause, seen_point, shown_clause, shown_goal, shown_used}
use Rattle.chc_tokens.specs.declared.goal.Goal.{Goal}
use Rattle.chc_tokens.specs.declared.goal.Goal.TheVariants.{Query, Holds}
use Rattle.chc_tokens.specs.declared.keeping.NoLift.{NoLift as NoLiftToken}
use Rattle.chc_tokens.specs.declared.refuting.Shown.{Shown as ShownToken}
use Rattle.chc_tokens.specs.declared.seeing.Seen.{Seen as SeenToken}
use Rattle.chc_tokens.specs.declared.used.Used.{Used as UsedLemma}
use Rattle.chc_tokens.specs.declared.why.Why.{Why as WhyKept}
use Rattle.chc_tokens.specs.declared.why.Why.TheVariants.{Broken as BrokenBy, Unknown as UnknownBy}
use Rattle.book_rules.specs.Queries.{Used}
use Rattle.book_rules.specs.Steps.{Left, NoLift, Seen, Shown, Why}

abbrev pub seen_of : SeenToken → Seen
seen_of seen = record { clause = seen_clause seen; point = seen_point seen }

abbrev pub used_of : UsedLemma → Used
used_of used = record { atom = used.atom; cube = used.lemma }

abbrev pub all_used : List UsedLemma → List Used
all_used used = map used_of used

-- the cube that the goal denies; none for a query
abbrev pub goal_of : Goal → Option (List Lit)
goal_of Query = None
goal_of (Holds lemma) = Some lemma

abbrev pub shown_of : ShownToken → Shown
shown_of shown = record { clause = shown_clause shown; goal = goal_of (shown_goal shown); used = all_used (shown_used shown) }

abbrev pub all_shown : List ShownToken → List Shown
all_shown proofs = map shown_of proofs

abbrev pub left_of : GaveUp → Left
left_of gave_up = record { form = given_form gave_up; evidence = given_evidence gave_up }

abbrev pub why_of : WhyKept → Why
why_of (BrokenBy seen) = Why.Broken (seen_of seen)
why_of (UnknownBy clause used evidence) = Why.Unknown clause (all_used used) (left_of evidence)

abbrev pub no_lift_of : NoLiftToken → NoLift
no_lift_of kept = record { cube = kept_lemma kept; why = why_of (kept_why kept) }

abbrev pub all_no_lifts : List NoLiftToken → List NoLift
all_no_lifts kept = map no_lift_of kept
