-- Lemmas in another's place (Bradley, "SAT-based model checking without unrolling", section 4: what the frame below excludes may be learnt).
use Rattle.std.specs.Prelude.{◌≡◌, ℤ, List, true}
use Rattle.lin_atoms.specs.Truth.{lit_truth}
use Rattle.lin_atoms.specs.declared.lit.Lit.{Lit}
use Rattle.step_rules.specs.Standing.{Standing}
use Rattle.step_rules.specs.declared.lemma_step.part.LemmaPart.{LemmaPart}
use Rattle.lemma_general.specs.Generals.{IsForSame, IsLearnt}
use Rattle.lemma_general.specs.Tries.{IsWiderCube}

-- a lemma in another's place: it breaks no rule, and is for the same obligation, at the same level, of the same predicate
pub record IsInPlaceOf (b : Standing) (given made : LemmaPart) : Type 0 where
  pub learnt : IsLearnt b made
  pub same : IsForSame given made

-- a literal that is true wherever another one is
abbrev pub IsLooser : Lit → Lit → Type 0
IsLooser lit looser = (tuple : List ℤ) → lit_truth tuple lit ≡ true → lit_truth tuple looser ≡ true

-- a lemma in another's place that excludes each tuple that the other one excludes
pub record IsWidened (b : Standing) (given made : LemmaPart) : Type 0 where
  pub learnt : IsLearnt b made
  pub same : IsForSame given made
  pub wider : IsWiderCube given.lemma made.lemma
