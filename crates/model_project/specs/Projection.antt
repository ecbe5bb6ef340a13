-- A projection of a conjunction at a model: a cube over the kept variables that has the model's point, and of which every integer point extends to a point of the conjunction (Komuravelli, Gurfinkel and Chaki 2014, model based projection).
use Rattle.std.specs.Prelude.{◌≡◌, ℕ, zero, suc, List, [], ◌∷◌, map, length, Option, None, Some, ℤ, pos, neg_ℤ, ◌==◌, Bool, true, if◌then◌else◌}
use Rattle.std.specs.List.{list_all, list_any}
use Rattle.lin_atoms.specs.Linear.{variable_at}
use Rattle.lin_atoms.specs.Truth.{lit_all, lit_truth}
use Rattle.lin_atoms.specs.declared.lit.Lit.{Lit}
use Rattle.lin_atoms.specs.declared.lit.Lit.TheVariants.{Eq}
use Rattle.model_project.specs.Elimination.{removed, tidied}

abbrev pub is_kept : List ℕ → ℕ → Bool
is_kept keep v = list_any (λ k. k == v) keep

-- the variables below n that aren't kept are removed, from the greatest down
abbrev mutual
  pub eliminated : List ℤ → List ℕ → ℕ → Option (List Lit) → Option (List Lit)
  eliminated model keep zero lits = lits
  eliminated model keep (suc v) None = None
  eliminated model keep (suc v) (Some lits) = eliminated model keep v (if is_kept keep v then Some lits else removed model v lits)

-- the model's point, as one equation for each kept variable
abbrev pub point : List ℤ → List ℕ → List Lit
point model keep = map (λ v. Eq (record { terms = (v, pos 1) ∷ []; constant = neg_ℤ (variable_at model v) })) keep

abbrev pub unless_given_up : List ℤ → List ℕ → Option (List Lit) → List Lit
unless_given_up model keep None = point model keep
unless_given_up model keep (Some lits) = lits

-- the cube of the elimination, and the model's point where a number is wide
abbrev pub projection : List ℤ → List ℕ → List Lit → List Lit
projection model keep lits = unless_given_up model keep (eliminated model keep (length model) (tidied lits))

-- whether all literals are true at a point
abbrev pub are_true : List ℤ → List Lit → Bool
are_true p lits = list_all (lit_truth p) lits

-- a point that gives the kept variables the same values and makes the literals true
pub record Extends (lits : List Lit) (keep : List ℕ) (p : List ℤ) : Type 0 where
  pub whole : List ℤ
  pub same : (v : ℕ) → is_kept keep v ≡ true → variable_at whole v ≡ variable_at p v
  pub holds : are_true whole lits ≡ true

pub record IsProjection (lits : List Lit) (model : List ℤ) (keep : List ℕ) (cube : List Lit) : Type 0 where
  pub variables : list_all (lit_all (is_kept keep)) cube ≡ true
  pub has_model : are_true model cube ≡ true
  pub extends : (p : List ℤ) → are_true p cube ≡ true → Extends lits keep p
