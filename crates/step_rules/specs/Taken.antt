-- The steps that a book takes, as the plain steps of the rules, and the systems that their tokens were made for.
use Rattle.std.specs.Prelude.{◌≡◌, true}
use Rattle.clause_form.specs.System.{Clauses}
use Rattle.chc_tokens.specs.Tokens.{IsNoLift, IsShownToken, is_seen}
use Rattle.book_rules.specs.Frames.{Lemma}
use Rattle.book_rules.specs.Steps.{IsProjected, Opens, Learns, Records, Lifts, Raises, Stalls, Derives, Strengthens, DeriveStep as PlainDerive, FactStep as PlainFact, LemmaStep as PlainLemma, LiftStep as PlainLift, OpenStep as PlainOpen, RaiseStep as PlainRaise, StallStep as PlainStall, Step as PlainStep, StrengthenStep as PlainStrengthen}
use Rattle.book_rules.specs.Walks.{AllOf}
use Rattle.step_rules.specs.Tokens.{all_no_lifts, all_shown, all_used, left_of, seen_of}
use Rattle.step_rules.specs.declared.derive_step.part.DerivePart.{DerivePart}
use Rattle.step_rules.specs.declared.fact_step.part.FactPart.{FactPart}
use Rattle.step_rules.specs.declared.lemma_step.part.LemmaPart.{LemmaPart}
use Rattle.step_rules.specs.declared.lift_step.part.LiftPart.{LiftPart}
use Rattle.step_rules.specs.declared.open_step.part.OpenPart.{OpenPart}
use Rattle.step_rules.specs.declared.raise_step.part.RaisePart.{RaisePart}
use Rattle.step_rules.specs.declared.stall_step.part.StallPart.{StallPart}
use Rattle.step_rules.specs.declared.strengthen_step.part.StrengthenPart.{StrengthenPart}
use Rattle.step_rules.specs.declared.step.Step.{Step}
use Rattle.step_rules.specs.declared.step.Step.TheVariants.{OpenStep, LemmaStep, FactStep, LiftStep, RaiseStep, StallStep, DeriveStep, StrengthenStep}

abbrev pub open_of : OpenPart → PlainOpen
open_of o = record { parent = o.parent; atom = o.atom; seen = seen_of o.seen; cube = o.cube; area = o.area }

abbrev pub learnt_of : LemmaPart → Lemma
learnt_of l = record { pred = l.pred; cube = l.lemma }

abbrev pub learn_of : LemmaPart → PlainLemma
learn_of l = record { target = l.target; lemma = learnt_of l; level = l.level; proofs = all_shown l.proofs }

abbrev pub record_of : FactPart → PlainFact
record_of f = record { target = f.target; seen = seen_of f.seen; premises = f.premises }

abbrev pub lift_of : LiftPart → PlainLift
lift_of l = record { lemma = l.lemma; from = l.from; proofs = all_shown l.proofs }

abbrev pub raise_of : RaisePart → PlainRaise
raise_of r = record { closed = all_shown r.closed; kept = all_no_lifts r.kept }

abbrev pub stall_of : StallPart → PlainStall
stall_of t = record { target = t.target; clause = t.clause; used = all_used t.used; evidence = left_of t.evidence }

abbrev pub derive_of : DerivePart → PlainDerive
derive_of f = record { seen = seen_of f.seen; premises = f.premises }

abbrev pub strengthen_of : StrengthenPart → PlainStrengthen
strengthen_of l = record { lemma = record { pred = l.pred; cube = l.lemma }; level = l.level; proofs = all_shown l.proofs }

abbrev pub step_of : Step → PlainStep
step_of (OpenStep o) = Opens (open_of o)
step_of (LemmaStep l) = Learns (learn_of l)
step_of (FactStep f) = Records (record_of f)
step_of (LiftStep l) = Lifts (lift_of l)
step_of (RaiseStep r) = Raises (raise_of r)
step_of (StallStep t) = Stalls (stall_of t)
step_of (DeriveStep f) = Derives (derive_of f)
step_of (StrengthenStep l) = Strengthens (strengthen_of l)

-- the step's tokens were made for the system
abbrev pub IsMadeFor : Clauses → Step → Type 0
IsMadeFor sys (OpenStep o) = is_seen sys o.seen ≡ true
IsMadeFor sys (LemmaStep l) = AllOf (IsShownToken sys) l.proofs
IsMadeFor sys (FactStep f) = is_seen sys f.seen ≡ true
IsMadeFor sys (LiftStep l) = AllOf (IsShownToken sys) l.proofs
IsMadeFor sys (RaiseStep r) = AllOf (IsShownToken sys) r.closed × AllOf (IsNoLift sys) r.kept
IsMadeFor sys (StallStep t) = Unit {0}
IsMadeFor sys (DeriveStep f) = is_seen sys f.seen ≡ true
IsMadeFor sys (StrengthenStep l) = AllOf (IsShownToken sys) l.proofs

-- what every area keeps
abbrev pub AreProjected : Step → Type 0
AreProjected (OpenStep o) = IsProjected o.area
AreProjected (LemmaStep l) = Unit {0}
AreProjected (FactStep f) = Unit {0}
AreProjected (LiftStep l) = Unit {0}
AreProjected (RaiseStep r) = Unit {0}
AreProjected (StallStep t) = Unit {0}
AreProjected (DeriveStep f) = Unit {0}
AreProjected (StrengthenStep l) = Unit {0}
