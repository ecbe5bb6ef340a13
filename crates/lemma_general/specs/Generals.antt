-- What a lemma made more general is, a lemma carried to a higher level, and one that enters for no obligation (Bradley, "SAT-based model checking without unrolling",
-- section 4, on literals that are dropped; Hoder and Bjorner, "Generalized property directed reachability", section 3, on levels).
use Rattle.std.specs.Prelude.{◌≡◌, ◌<◌, ◌≤◌, ◌-◌, ◌+◌, ◌⊎◌, ◌++◌, ◌∷◌, [], ℕ, List, Bool, ◌&&◌, not, nat_le, Option, Some, None, length, take, drop, true, false}
use Rattle.lin_atoms.specs.Algebra.{negated}
use Rattle.lin_atoms.specs.declared.lit.Lit.{Lit}
use Rattle.lin_atoms.specs.declared.lit.Lit.TheVariants.{Le, Eq, Div, NDiv}
use Rattle.lemma_frames.specs.Frames.{lemma_of, level_of, pred_of}
use Rattle.chc_tokens.specs.declared.goal.Goal.TheVariants.{Holds}
use Rattle.chc_tokens.specs.declared.seeing.Seen.{Seen}
use Rattle.book_rules.specs.Areas.{is_wide}
use Rattle.book_rules.specs.Places.{has_places, is_over}
use Rattle.book_rules.specs.Rules.{broken}
use Rattle.clause_queries.specs.Answers.{IsHit, IsLost}
use Rattle.clause_queries.specs.declared.lost.Lost.{Lost}
use Rattle.step_rules.specs.Standing.{Standing, standing_state}
use Rattle.step_rules.specs.Taken.{IsMadeFor, step_of}
use Rattle.step_rules.specs.declared.lemma_step.part.LemmaPart.{LemmaPart}
use Rattle.step_rules.specs.declared.lift_step.part.LiftPart.{LiftPart}
use Rattle.step_rules.specs.declared.strengthen_step.part.StrengthenPart.{StrengthenPart}
use Rattle.step_rules.specs.declared.step.Step.TheVariants.{LemmaStep, LiftStep, StrengthenStep}

-- a Lemma that breaks no rule of the book; its tokens were made for the book's system, and its cube is over its predicate, with
-- coefficients below 2 ^ 54 in magnitude
pub record IsLearnt (b : Standing) (part : LemmaPart) : Type 0 where
  pub unbroken : broken b.system (standing_state b) (step_of (LemmaStep part)) ≡ None
  pub made : IsMadeFor b.system (LemmaStep part)
  pub places : has_places b.system (step_of (LemmaStep part)) ≡ true
  pub thin : is_wide part.lemma ≡ false

-- the literals, each equation as two bounds
abbrev pub bounds_of : List Lit → List Lit
bounds_of [] = []
bounds_of (Le l ∷ lits) = Le l ∷ bounds_of lits
bounds_of (Eq l ∷ lits) = Le l ∷ Le (negated l) ∷ bounds_of lits
bounds_of (Div n l ∷ lits) = Div n l ∷ bounds_of lits
bounds_of (NDiv n l ∷ lits) = NDiv n l ∷ bounds_of lits

-- some of the literals, in order
abbrev pub IsPart : List Lit → List Lit → Type 0
IsPart [] whole = Unit {0}
IsPart (x ∷ part) [] = ⊥
IsPart (x ∷ part) (y ∷ whole) = ((x ≡ y) × IsPart part whole) ⊎ IsPart (x ∷ part) whole

-- the literals but that of a place
abbrev pub without : ℕ → List Lit → List Lit
without at lits = take at lits ++ drop (at + 1) lits

-- what stands against a cube under F(k): an instance with its body in F(k) whose head lies in the cube, or the search for one was given up
abbrev pub IsAgainst : Standing → ℕ → ℕ → ℕ → List Lit → Type 0
IsAgainst b pred k nodes cube =
    ((seen : Seen) × IsHit b.system b.frames.lemmas (Some pred) (Holds cube) k seen) ⊎ ((lost : Lost) × IsLost b.system b.frames.lemmas (Some pred) (Holds cube) k nodes lost)

-- something stands against the cube without each of its literals
abbrev pub IsLeast : Standing → ℕ → ℕ → ℕ → List Lit → Type 0
IsLeast b pred k nodes cube = (at : ℕ) → at < length cube → IsAgainst b pred k nodes (without at cube)

-- for the same obligation, at the same level, of the same predicate
pub record IsForSame (given made : LemmaPart) : Type 0 where
  pub target : made.target ≡ given.target
  pub pred : made.pred ≡ given.pred
  pub level : made.level ≡ given.level

-- a lemma made more general: its cube is a part of the given one, each equation split into two bounds, and something stands against dropping
-- any further literal. Where something stands against the split cube, it is a part of the cube as it was given
pub record IsGeneralised (b : Standing) (nodes : ℕ) (given made : LemmaPart) : Type 0 where
  pub learnt : IsLearnt b made
  pub same : IsForSame given made
  pub part : IsPart made.lemma (bounds_of given.lemma) ⊎ (IsAgainst b given.pred (given.level - 1) nodes (bounds_of given.lemma) × IsPart made.lemma given.lemma)
  pub least : IsLeast b made.pred (made.level - 1) nodes made.lemma

-- the same lemma at the same or a higher level, and either at the book's or something stands against it there
pub record IsRaised (b : Standing) (nodes : ℕ) (given made : LemmaPart) : Type 0 where
  pub learnt : IsLearnt b made
  pub target : made.target ≡ given.target
  pub pred : made.pred ≡ given.pred
  pub lemma : made.lemma ≡ given.lemma
  pub level : given.level ≤ made.level
  pub highest : (made.level ≡ b.level) ⊎ IsAgainst b made.pred made.level nodes made.lemma

-- a Lift of the lemma of a number, which breaks no rule
pub record IsLiftOf (b : Standing) (id : ℕ) (part : LiftPart) : Type 0 where
  pub unbroken : broken b.system (standing_state b) (step_of (LiftStep part)) ≡ None
  pub made : IsMadeFor b.system (LiftStep part)
  pub places : has_places b.system (step_of (LiftStep part)) ≡ true
  pub lemma : part.lemma ≡ id

-- a Lift; none only where something stands against the lemma under F of its level
abbrev pub IsLiftFound : Standing → ℕ → ℕ → Option LiftPart → Type 0
IsLiftFound b nodes id (Some part) = IsLiftOf b id part
IsLiftFound b nodes id None = IsAgainst b (pred_of b.frames.lemmas id) (level_of b.frames.lemmas id) nodes (lemma_of b.frames.lemmas id)

-- whether a lemma may enter at a level: the book has it, the lemma is over the predicate, and its coefficients are below 2 ^ 54 in magnitude
abbrev pub may_enter : Standing → ℕ → ℕ → List Lit → Bool
may_enter b pred level cube = ((nat_le 1 level && nat_le level b.level) && is_over b.system.preds pred cube) && not (is_wide cube)

-- a Strengthen with this lemma at this level, which breaks no rule
pub record IsStrengthenOf (b : Standing) (on at : ℕ) (cube : List Lit) (part : StrengthenPart) : Type 0 where
  pub unbroken : broken b.system (standing_state b) (step_of (StrengthenStep part)) ≡ None
  pub made : IsMadeFor b.system (StrengthenStep part)
  pub places : has_places b.system (step_of (StrengthenStep part)) ≡ true
  pub thin : is_wide part.lemma ≡ false
  pub pred : part.pred ≡ on
  pub lemma : part.lemma ≡ cube
  pub level : part.level ≡ at

-- a Strengthen; none only where the lemma may not enter, or something stands against it under the frame below
abbrev pub IsStrengthenFound : Standing → ℕ → ℕ → ℕ → List Lit → Option StrengthenPart → Type 0
IsStrengthenFound b nodes pred level cube (Some part) = IsStrengthenOf b pred level cube part
IsStrengthenFound b nodes pred level cube None = (may_enter b pred level cube ≡ false) ⊎ IsAgainst b pred (level - 1) nodes cube
