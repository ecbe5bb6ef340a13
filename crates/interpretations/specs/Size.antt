-- How many nodes a definition may need: seven for a coefficient times an argument, `(* (- 2) (ite x 1 0))`, and a few more for
-- each literal and lemma.
use Rattle.std.specs.Prelude.{ℕ, ◌+◌, ◌*◌, ◌^◌, ◌<◌, List, length}
use Rattle.lin_atoms.specs.declared.lit.Lit.{Lit}
use Rattle.lin_atoms.specs.Denial.{linear_of}
use Rattle.lemma_frames.specs.declared.framed.Framed.{Framed}
use Rattle.interpretations.specs.Kept.{AreKept}
use Rattle.std.specs.List.{sum_by}

-- a literal as `(not ((_ divisible n) (+ .. c)))` with a negative number: five beside its products
abbrev pub literal_size : Lit → ℕ
literal_size lit = 5 + 7 * length (linear_of lit).terms

-- a negation, a conjunction and the literals
abbrev pub lemma_size : List Lit → ℕ
lemma_size cube = 2 + sum_by literal_size cube

-- a conjunction and the lemmas
abbrev pub term_size : List (List Lit) → ℕ
term_size cubes = 1 + sum_by lemma_size cubes

-- the lemmas of F(k) on some predicate may need more nodes than there are numbers for
pub record IsTooLarge (lemmas : List Framed) (k : ℕ) : Type 0 where
  pub pred : ℕ
  pub cubes : List (List Lit)
  pub kept : AreKept lemmas pred k cubes
  pub large : 2 ^ 32 < term_size cubes
