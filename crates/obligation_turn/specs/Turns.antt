-- On which books and obligations a turn is asked, and what it answers (Hoder and Bjorner, "Generalized property directed
-- reachability", section 3; Komuravelli, Gurfinkel and Chaki, "SMT-based model checking for recursive programs", section 4).
use Rattle.std.specs.Prelude.{◌≡◌, ◌<◌, ◌-◌, ℕ, List, [], ◌∷◌, Option, Some, None, length, slice_get, true, false}
use Rattle.lin_atoms.specs.declared.lit.Lit.{Lit}
use Rattle.clause_form.specs.declared.clause.Clause.{Clause}
use Rattle.lemma_frames.specs.Frames.{lemma_of, level_of, pred_of}
use Rattle.lemma_frames.specs.declared.framed.Framed.{Framed as KeptLemma}
use Rattle.obligation_tree.specs.declared.node.Node.{Node}
use Rattle.obligation_tree.specs.declared.obligation.Obligation.{Obligation}
use Rattle.obligation_tree.specs.Nodes.{has_live_child, is_live_at, is_stalled_in, node_at, obligation_in}
use Rattle.chc_tokens.specs.Kept.{kept_why, seen_clause, seen_point}
use Rattle.chc_tokens.specs.declared.goal.Goal.{Goal}
use Rattle.chc_tokens.specs.declared.goal.Goal.TheVariants.{Query, Holds}
use Rattle.chc_tokens.specs.declared.keeping.NoLift.{NoLift}
use Rattle.chc_tokens.specs.declared.why.Why.{Why}
use Rattle.chc_tokens.specs.declared.why.Why.TheVariants.{Broken, Unknown}
use Rattle.book_rules.specs.Areas.{is_wide}
use Rattle.book_rules.specs.Frames.{AreRefuted, Framed}
use Rattle.book_rules.specs.Instances.{instances}
use Rattle.book_rules.specs.Kept.{AreRecorded, IsOrdered}
use Rattle.book_rules.specs.Legal.{end}
use Rattle.book_rules.specs.Places.{has_places}
use Rattle.book_rules.specs.RaiseRules.{below}
use Rattle.book_rules.specs.Rules.{broken}
use Rattle.book_rules.specs.Walks.{AllOf}
use Rattle.area_literals.specs.Areas.{IsAreaOf}
use Rattle.clause_queries.specs.Answers.{AreFew, IsLost}
use Rattle.clause_queries.specs.declared.lost.Lost.{Lost}
pub use Rattle.obligation_turn.specs.Counts.{StepCounts, WhyCounts}
use Rattle.step_rules.specs.Standing.{IsStanding, Standing, standing_state}
use Rattle.step_rules.specs.Taken.{AreProjected, IsMadeFor, step_of}
use Rattle.step_rules.specs.Views.{facts_of, lemmas_of}
use Rattle.step_rules.specs.declared.step.Step.{Step}
use Rattle.step_rules.specs.declared.step.Step.TheVariants.{OpenStep, LemmaStep, FactStep, LiftStep, RaiseStep, StallStep, DeriveStep, StrengthenStep}

-- every cube in the book has coefficients below 2 ^ 54 in magnitude
pub record IsThin (b : Standing) : Type 0 where
  pub lemmas : AllOf (λ (f : KeptLemma). is_wide f.lemma ≡ false) b.frames.lemmas
  pub obligations : AllOf (λ (n : Node). is_wide (obligation_in n).cube ≡ false) b.tree.nodes

-- a book that hasn't ended
pub record GoesOn (b : Standing) : Type 0 where
  pub few : AreFew b.system
  pub standing : IsStanding b
  pub ordered : IsOrdered (standing_state b)
  pub recorded : AreRecorded b.system [] (facts_of b.facts)
  pub goes_on : end (standing_state b) ≡ None
  pub thin : IsThin b

-- a live obligation without live children that isn't stalled
pub record IsOpenLeaf (b : Standing) (job : ℕ) : Type 0 where
  pub there : job < length b.tree.nodes
  pub live : is_live_at b.tree.nodes job ≡ true
  pub leaf : has_live_child b.tree.nodes job ≡ false
  pub unmarked : is_stalled_in (node_at b.tree.nodes job) ≡ false

-- a cube that the step adds to the book is thin, too
abbrev pub StepIsThin : Step → Type 0
StepIsThin (OpenStep o) = is_wide o.cube ≡ false
StepIsThin (LemmaStep l) = is_wide l.lemma ≡ false
StepIsThin (FactStep f) = Unit {0}
StepIsThin (LiftStep l) = Unit {0}
StepIsThin (RaiseStep r) = Unit {0}
StepIsThin (StallStep t) = Unit {0}
StepIsThin (DeriveStep f) = Unit {0}
StepIsThin (StrengthenStep l) = is_wide l.lemma ≡ false

-- the step is for the obligation. In the area of an Open the guard's literals come first, then those of the obligation's cube, then those of the lemmas.
-- A Lift or a Raise is for the root, where no instance of false has its body in F(N). A Derive and a Strengthen are for no obligation
abbrev pub Serves : Standing → ℕ → Step → Type 0
Serves b job (OpenStep o) =
    (o.parent ≡ job) × (clause : Clause) × (slice_get b.system.clauses (seen_clause o.seen) ≡ Some clause)
    × IsAreaOf clause (obligation_in (node_at b.tree.nodes job)).cube (lemmas_of b.frames.lemmas) ((obligation_in (node_at b.tree.nodes job)).level - 1) (seen_point o.seen) (o.area).lits
Serves b job (LemmaStep l) = l.target ≡ job
Serves b job (FactStep f) = f.target ≡ Some job
Serves b job (LiftStep l) = ((obligation_in (node_at b.tree.nodes job)).pred ≡ None) × AreRefuted (instances b.system) (lemmas_of b.frames.lemmas) b.level
Serves b job (RaiseStep r) = ((obligation_in (node_at b.tree.nodes job)).pred ≡ None) × AreRefuted (instances b.system) (lemmas_of b.frames.lemmas) b.level
Serves b job (StallStep t) = t.target ≡ job
Serves b job (DeriveStep f) = ⊥
Serves b job (StrengthenStep l) = ⊥

-- what is asked of the clauses for an obligation: that a head lies in its cube, and of the root that false has an instance
abbrev pub goal_by : Option ℕ → List Lit → Goal
goal_by None cube = Query
goal_by (Some pred) cube = Holds cube

abbrev pub goal_for : Obligation → Goal
goal_for o = goal_by o.pred o.cube

abbrev pub job_of : Standing → ℕ → Obligation
job_of b job = obligation_in (node_at b.tree.nodes job)

-- an obligation's query was given up, and no clause that is asked for it has an instance that was found
abbrev pub IsJobLost : Standing → ℕ → ℕ → Lost → Type 0
IsJobLost b job nodes lost = IsLost b.system b.frames.lemmas (job_of b job).pred (goal_for (job_of b job)) ((job_of b job).level - 1) nodes lost

-- the same of the lemma of a number, under F of its level
abbrev pub IsLostOf : Standing → ℕ → ℕ → Lost → Type 0
IsLostOf b nodes id lost = IsLost b.system b.frames.lemmas (Some (pred_of b.frames.lemmas id)) (Holds (lemma_of b.frames.lemmas id)) (level_of b.frames.lemmas id) nodes lost

abbrev pub IsWhySought : Standing → ℕ → ℕ → Why → Type 0
IsWhySought b nodes id (Broken seen) = Unit {0}
IsWhySought b nodes id (Unknown clause used evidence) = IsLostOf b nodes id (record { clause = clause; used = used; evidence = evidence })

-- so of each of these lemmas that is kept where it is because a query was given up
abbrev pub AreSought : Standing → ℕ → List (ℕ × Framed) → List NoLift → Type 0
AreSought b nodes [] kept = Unit {0}
AreSought b nodes (e ∷ es) [] = Unit {0}
AreSought b nodes (e ∷ es) (k ∷ kept) = IsWhySought b nodes e.0 (kept_why k) × AreSought b nodes es kept

-- a step gives up only where all that is asked was asked, and nothing else was found: a Stall for its obligation, a Raise for each lemma that it keeps
abbrev pub IsSought : Standing → ℕ → ℕ → Step → Type 0
IsSought b job nodes (OpenStep o) = Unit {0}
IsSought b job nodes (LemmaStep l) = Unit {0}
IsSought b job nodes (FactStep f) = Unit {0}
IsSought b job nodes (LiftStep l) = Unit {0}
IsSought b job nodes (RaiseStep r) = AreSought b nodes (below (standing_state b)) r.kept
IsSought b job nodes (DeriveStep f) = Unit {0}
IsSought b job nodes (StrengthenStep l) = Unit {0}
IsSought b job nodes (StallStep t) = IsJobLost b job nodes (record { clause = t.clause; used = t.used; evidence = t.evidence })

-- a step that the book takes: it breaks no rule, its tokens were made for the book's system, and its cubes are over their predicates
pub record IsTurn (b : Standing) (job nodes : ℕ) (step : Step) : Type 0 where
  pub unbroken : broken b.system (standing_state b) (step_of step) ≡ None
  pub made : IsMadeFor b.system step
  pub places : has_places b.system (step_of step) ≡ true
  pub projected : AreProjected step
  pub counts : StepCounts nodes step
  pub thin : StepIsThin step
  pub serves : Serves b job step
  pub sought : IsSought b job nodes step
