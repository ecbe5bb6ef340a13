-- How literals are dropped.
use Rattle.std.specs.Prelude.{◌≡◌, ◌<◌, ◌≤◌, ◌-◌, ◌+◌, ◌⊎◌, ◌++◌, ◌∷◌, [], ℕ, List, Bool, true, false, Option, Some, None, length}
use Rattle.lin_atoms.specs.declared.lit.Lit.{Lit}
use Rattle.chc_tokens.specs.declared.goal.Goal.TheVariants.{Holds}
use Rattle.chc_tokens.specs.declared.refuting.Shown.{Shown}
use Rattle.book_rules.specs.Areas.{is_wide}
use Rattle.book_rules.specs.Places.{is_over}
use Rattle.book_rules.specs.Walks.{AllOf}
use Rattle.lemma_frames.specs.Frames.{Lemmas}
use Rattle.lemma_frames.specs.declared.framed.Framed.{Framed}
use Rattle.clause_queries.specs.Answers.{AreProofs, IsFound, IsHit, IsLost}
use Rattle.clause_queries.specs.declared.finding.Found.{Found}
use Rattle.clause_queries.specs.declared.finding.Found.TheVariants.{Instance, Refuted, GivenUp}
use Rattle.step_rules.specs.Standing.{Standing}
use Rattle.step_rules.specs.declared.lemma_step.part.LemmaPart.{LemmaPart}
use Rattle.lemma_general.specs.Generals.{IsAgainst, IsForSame, IsLearnt, IsLeast, IsPart, bounds_of}
use Rattle.lemma_general.specs.Tries.{IsMet}
use Rattle.lemma_general.specs.declared.breaking.Breaking.{Breaking}

-- a cube of which a lemma may be asked
pub record IsCubeOf (b : Standing) (pred : ℕ) (cube : List Lit) : Type 0 where
  pub over : is_over b.system.preds pred cube ≡ true
  pub thin : is_wide cube ≡ false

-- what is found of a cube under F(k)
abbrev pub IsFoundOf : Standing → ℕ → List Lit → ℕ → ℕ → Found → Type 0
IsFoundOf b pred cube k nodes found = IsFound b.system b.frames.lemmas (Some pred) (Holds cube) k nodes found

abbrev pub AreProofsOf : Standing → ℕ → List Lit → ℕ → List Shown → Type 0
AreProofsOf b pred cube k proofs = AreProofs b.system b.frames.lemmas (Some pred) (Holds cube) k proofs

-- the frames with the lemma that denies the cube, at this level, as the last one
abbrev pub with_own : Standing → ℕ → List Lit → ℕ → List Framed
with_own b pred cube k = b.frames.lemmas ++ (record { pred = pred; level = k; lemma = cube }) ∷ []

abbrev pub IsWithOwn : Standing → ℕ → List Lit → ℕ → Option Lemmas → Type 0
IsWithOwn b pred cube k (Some frames) = frames.lemmas ≡ with_own b pred cube k
IsWithOwn b pred cube k None = Unit {0}

-- what is found of a cube under F(k) and the lemma itself
abbrev pub IsFoundByOwn : Standing → ℕ → List Lit → ℕ → ℕ → Option Found → Type 0
IsFoundByOwn b pred cube k nodes (Some found) = IsFound b.system (with_own b pred cube k) (Some pred) (Holds cube) k nodes found
IsFoundByOwn b pred cube k nodes None = Unit {0}

-- the refutations of a cube under F(k), or under F(k) and the lemma itself
abbrev pub AreShownOf : Standing → ℕ → List Lit → ℕ → List Shown → Type 0
AreShownOf b pred cube k proofs = AreProofsOf b pred cube k proofs ⊎ AreProofs b.system (with_own b pred cube k) (Some pred) (Holds cube) k proofs

-- the refutations of a cube under F(k); none where something stands against it
abbrev pub IsPlainlyShown : Standing → ℕ → List Lit → ℕ → ℕ → Option (List Shown) → Type 0
IsPlainlyShown b pred cube k nodes (Some proofs) = AreProofsOf b pred cube k proofs
IsPlainlyShown b pred cube k nodes None = IsAgainst b pred k nodes cube

-- what is answered of a cube that the lemma itself may help to refute
abbrev pub IsAnswerOf : Standing → ℕ → List Lit → ℕ → ℕ → Found → Type 0
IsAnswerOf b pred cube k nodes (Instance seen) = IsHit b.system b.frames.lemmas (Some pred) (Holds cube) k seen
IsAnswerOf b pred cube k nodes (Refuted proofs) = AreShownOf b pred cube k proofs
IsAnswerOf b pred cube k nodes (GivenUp lost) = IsLost b.system b.frames.lemmas (Some pred) (Holds cube) k nodes lost

-- the refutations that were found, if no instance was and the search wasn't given up
abbrev pub refuted_of : Found → Option (List Shown)
refuted_of (Refuted proofs) = Some proofs
refuted_of (Instance seen) = None
refuted_of (GivenUp lost) = None

-- the refutations of a cube under F(k), by the lemma itself, too; none where something stands against it
abbrev pub IsShownOf : Standing → ℕ → List Lit → ℕ → ℕ → Option (List Shown) → Type 0
IsShownOf b pred cube k nodes (Some proofs) = AreShownOf b pred cube k proofs
IsShownOf b pred cube k nodes None = IsAgainst b pred k nodes cube

-- instances that were met
abbrev pub AreMet : Standing → LemmaPart → List Breaking → Type 0
AreMet b part met = AllOf (IsMet b part.pred (part.level - 1)) met

-- the cube stands in the lemma's place
abbrev pub IsReplaced : Standing → List Lit → LemmaPart → LemmaPart → Type 0
IsReplaced b cube old new = IsLearnt b new × IsForSame old new × (new.lemma ≡ cube)

-- whether the cube was taken in the lemma's place
abbrev pub IsTaken : Standing → ℕ → List Lit → LemmaPart → LemmaPart → Bool → Type 0
IsTaken b nodes cube old new true = IsReplaced b cube old new
IsTaken b nodes cube old new false = (new ≡ old) × IsAgainst b old.pred (old.level - 1) nodes cube

-- a lemma whose cube is split into bounds, or against which something stands
abbrev pub IsSplit : Standing → ℕ → LemmaPart → LemmaPart → Type 0
IsSplit b nodes old new = IsReplaced b (bounds_of old.lemma) old new ⊎ (IsAgainst b old.pred (old.level - 1) nodes (bounds_of old.lemma) × (new ≡ old))

-- whether a pass dropped literals
abbrev pub IsPassed : Standing → ℕ → LemmaPart → LemmaPart → Bool → Type 0
IsPassed b nodes old new true = IsLearnt b new × IsForSame old new × IsPart new.lemma old.lemma × (length new.lemma < length old.lemma)
IsPassed b nodes old new false = (new ≡ old) × IsLeast b old.pred (old.level - 1) nodes old.lemma

-- whether a lemma was taken to the next level
abbrev pub IsRaisedOnce : Standing → ℕ → LemmaPart → LemmaPart → Bool → Type 0
IsRaisedOnce b nodes old new true = IsLearnt b new × (new.target ≡ old.target) × (new.pred ≡ old.pred) × (new.lemma ≡ old.lemma) × (new.level ≡ old.level + 1) × (new.level ≤ b.level)
IsRaisedOnce b nodes old new false = (new ≡ old) × ((old.level ≡ b.level) ⊎ IsAgainst b old.pred old.level nodes old.lemma)
