-- The lemmas of a pass, one after another.
use Rattle.std.proofs.Common.{◌≡◌, ℕ, ◌+◌, ◌<◌, ◌≤◌, Bool, false, length, Some, None, ap, sym, subst, below_more, arith}
use Rattle.std.specs.Prelude.{Option}
use Rattle.step_rules.specs.Standing.{Standing}
use Rattle.step_rules.specs.declared.lift_step.part.LiftPart.{LiftPart}
use Rattle.step_rules.specs.declared.step.Step.{Step}
use Rattle.step_rules.specs.declared.step.Step.TheVariants.{LiftStep}
use Rattle.lemma_general.specs.Generals.{IsLiftFound}
use Rattle.search_strategy.specs.Lifts.{AllStay, IsFirstLift, IsInPass, IsNextLift, MayLift, Stays}
use Rattle.search_strategy.specs.declared.lifts.Pass.{Pass}
use Rattle.search_strategy.specs.machinery.Passes.{IsLiftAt}

-- those before a number stay
abbrev pub StayBefore : Standing → ℕ → Pass → ℕ → Type 0
StayBefore b nodes pass k = (m : ℕ) → m < k → IsInPass b pass m → Stays b nodes m

pub none-before : (b : Standing) (nodes : ℕ) (pass : Pass) → StayBefore b nodes pass pass.next
none-before b nodes pass m less h = let from = h.from in absurd (omega (arith, from, less))

pub one-more : (b : Standing) (nodes : ℕ) (pass : Pass) (k : ℕ) → StayBefore b nodes pass k → IsLiftAt b nodes pass.least k None → StayBefore b nodes pass (k + 1)
one-more b nodes pass k before here = below_more (λ m. IsInPass b pass m → Stays b nodes m) k before (λ h. here h.may)

pub all-stay : (b : Standing) (nodes : ℕ) (pass : Pass) (k : ℕ) → length b.frames.lemmas ≤ k → StayBefore b nodes pass k → AllStay b nodes pass
all-stay b nodes pass k past before m h = let there = h.there in before m (omega (arith, there, past)) h

pub first-lift : (b : Standing) (nodes : ℕ) (pass : Pass) (id : ℕ) (step : Step) → StayBefore b nodes pass id → pass.next ≤ id → id < length b.frames.lemmas → IsLiftAt b nodes pass.least id (Some step) → IsFirstLift b nodes pass id step
first-lift b nodes pass id step before from there here = record { in_pass = record { from = from; there = there; may = here.0 }; lift = here.1; first = before }

-- one lemma

pub lift-at : (b : Standing) (nodes least id : ℕ) (part : LiftPart) → MayLift b least id → IsLiftFound b nodes id (Some part) → IsLiftAt b nodes least id (Some (LiftStep part))
lift-at b nodes least id part may found = (may, found)

-- the next one

pub no-pass : (b : Standing) (nodes : ℕ) (old new : Option Pass) → old ≡ None → new ≡ None → IsNextLift b nodes old new None
no-pass b nodes None new was is = is
no-pass b nodes (Some pass) new was is = absurd (cc)

pub next-lift : (b : Standing) (nodes : ℕ) (old : Option Pass) (pass : Pass) (id : ℕ) (step : Step) → old ≡ Some pass → IsFirstLift b nodes pass id step → IsNextLift b nodes old (Some (record { next = id; least = pass.least })) (Some step)
next-lift b nodes None pass id step was h = absurd (cc)
next-lift b nodes (Some own) pass id step was h = let same : pass ≡ own = cc in (subst (λ (p : Pass). IsFirstLift b nodes p id step) same h, ap (λ (p : Pass). p.least) same)

pub is-over : (b : Standing) (nodes : ℕ) (old : Option Pass) (pass : Pass) → old ≡ Some pass → AllStay b nodes pass → IsNextLift b nodes old None None
is-over b nodes None pass was h = absurd (cc)
is-over b nodes (Some own) pass was h = let same : pass ≡ own = cc in subst (AllStay b nodes) same h
