-- Derivations: hyperresolution by instances of a script's clauses, from the clauses without body atoms on (Robinson,
-- "Automatic deduction with hyper-resolution"; Bjørner, Gurfinkel, McMillan, Rybalchenko, "Horn clause solvers for program
-- verification", section 2).
use Rattle.std.specs.Prelude.{◌≡◌, ◌≤◌, ℕ, ◌+◌, max, List, [], ◌∷◌, ◌++◌, map, fold, slice_get, slice_index_or, Option, Some, option_map}
use Rattle.term_tree.specs.declared.scalar.Value.{Value}
use Rattle.term_tree.specs.declared.script.Script.{Script}
use Rattle.horn_shape.specs.declared.clause.HornClause.{HornClause}
use Rattle.horn_shape.specs.Clause.{IsClauseOf}
use Rattle.horn_shape.specs.Instance.{GroundAtom, IsInstance, premises_of, conclusion_of}

-- an instance of the assertion of that number at these values of its clause's variables, the numbers, from 0, of the steps
-- that give its body atoms, and what it concludes; nothing stands for false
pub record Step : Type 0 where
  pub assertion : ℕ
  pub values : List Value
  pub premises : List ℕ
  pub conclusion : Option GroundAtom

-- what the step of that number concludes, where it is there
abbrev pub concluded : List Step → ℕ → Option (Option GroundAtom)
concluded steps number = option_map (λ s. s.conclusion) (slice_get steps number)

-- an instance whose body atoms, in order, are the conclusions of the earlier steps that it names, and whose head it concludes
pub record IsStep (script : Script) (earlier : List Step) (step : Step) : Type 0 where
  pub clause : HornClause
  pub clause_is : IsClauseOf script step.assertion clause
  pub instance : IsInstance script clause step.values
  pub premises : map (concluded earlier) step.premises ≡ map (λ atom. Some (Some atom)) (premises_of script clause step.values)
  pub conclusion : step.conclusion ≡ conclusion_of script clause step.values

-- each of the later steps rests on the earlier ones and on those before it
abbrev pub IsDerivationAfter : Script → List Step → List Step → Type 0
IsDerivationAfter script earlier [] = Unit {0}
IsDerivationAfter script earlier (step ∷ steps) = IsStep script earlier step × IsDerivationAfter script (earlier ++ step ∷ []) steps

-- each step rests on those before it
abbrev pub IsDerivation : Script → List Step → Type 0
IsDerivation script steps = IsDerivationAfter script [] steps

-- one more than the greatest height of the steps that it names
abbrev pub height_over : List ℕ → Step → ℕ
height_over heights step = 1 + fold max 0 (map (λ number. slice_index_or heights number 0) step.premises)

-- the heights of the earlier steps, and behind them those of the later ones in order
abbrev pub heights_after : List ℕ → List Step → List ℕ
heights_after heights [] = heights
heights_after heights (step ∷ steps) = heights_after (heights ++ height_over heights step ∷ []) steps

-- the heights of a derivation's steps, in order
abbrev pub heights_of : List Step → List ℕ
heights_of steps = heights_after [] steps

-- some derivation ends in the conclusion, with a height of at most h
pub record IsDerivableWithin (script : Script) (h : ℕ) (conclusion : Option GroundAtom) : Type 0 where
  pub steps : List Step
  pub last : Step
  pub derivation : IsDerivation script (steps ++ last ∷ [])
  pub concludes : last.conclusion ≡ conclusion
  pub within : height_over (heights_of steps) last ≤ h
