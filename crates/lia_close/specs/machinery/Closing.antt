-- A leaf in the making, with the roundings above it.
use Rattle.std.specs.Prelude.{◌≡◌, ℕ, ◌+◌, List, [], ◌∷◌, ◌++◌, ℤ, pos, neg_ℤ, ◌*ℤ◌, int_le, length, map, ◌==◌, Bool, true, false, ◌&&◌, Some, slice_get, slice_index_or, if◌then◌else◌}
use Rattle.std.specs.List.{All, list_all}
use Rattle.lin_atoms.specs.Denial.{lit_fits}
use Rattle.lin_atoms.specs.Linear.{Linear, is_short, of_constant, value_at}
use Rattle.lin_atoms.specs.declared.lit.Lit.{Lit}
use Rattle.lin_atoms.specs.declared.lit.Lit.TheVariants.{Le, Eq, Div, NDiv}
use Rattle.int_rows.specs.Ready.{has_no_variable, lin_content, rounded}
use Rattle.int_rows.specs.declared.bounds.Ready.{Ready}
use Rattle.refutation_trees.specs.Combination.{are_multipliers, combined, is_divided_by, is_multiplier}
use Rattle.refutation_trees.specs.declared.tree.Refutation.{Refutation}
use Rattle.refutation_trees.specs.declared.tree.Refutation.TheViews as tree
use Rattle.lia_close.specs.declared.leaf.Rounding.{Rounding}
use Rattle.lia_close.specs.declared.side.Side.{Side}
use Rattle.lia_close.specs.declared.side.Side.TheVariants.{Lower, Upper}
use Rattle.lia_close.specs.declared.side.Taken.{Taken}
use Rattle.lia_close.specs.machinery.Taken.{taken_value}

-- the coefficients of a form, in order
abbrev pub coefficients : Linear → List ℤ
coefficients lin = map (λ t. t.1) lin.terms

-- which of the literals that give a literal's bounds gives a bound, and with which sign
abbrev pub multiplier_of : Lit → Side → ℕ × ℤ
multiplier_of (Le lin) side = (0, pos 1)
multiplier_of (Eq lin) Upper = (0, pos 1)
multiplier_of (Eq lin) Lower = (0, neg_ℤ (pos 1))
multiplier_of (Div n lin) Upper = (0, pos 1)
multiplier_of (Div n lin) Lower = (0, neg_ℤ (pos 1))
multiplier_of (NDiv n lin) Lower = (0, pos 1)
multiplier_of (NDiv n lin) Upper = (1, pos 1)

-- what a literal is divided by before its bounds are integers
abbrev pub divisor_of : Lit → ℕ
divisor_of (Le lin) = lin_content lin
divisor_of (Eq lin) = lin_content lin
divisor_of (Div n lin) = 1
divisor_of (NDiv n lin) = 1

-- roundings, and the multipliers below them, with a bound of a literal `times` times more
abbrev pub with_taken : Lit → Side → ℕ → ℕ → ℤ → List Rounding × List (ℕ × ℤ) → List Rounding × List (ℕ × ℤ)
with_taken lit side reason known times leaf =
    let number = reason + (multiplier_of lit side).0 in
    let sign = (multiplier_of lit side).1 in
    if divisor_of lit == 1
    then (leaf.0, leaf.1 ++ (number, sign *ℤ times) ∷ [])
    else (leaf.0 ++ record { number = number; sign = sign; divisor = pos (divisor_of lit) } ∷ [], leaf.1 ++ (known + length leaf.0, times) ∷ [])

-- what was taken is of a literal that is there and has a variable, and it is taken few enough times
pub record IsOf (lits : List Lit) (taken : Taken) : Type 0 where
  pub lit : Lit
  pub there : slice_get lits taken.literal ≡ Some lit
  pub variable : has_no_variable lit ≡ false
  pub short : is_short taken.times ≡ true

abbrev pub AreOf : List Lit → List Taken → Type 0
AreOf lits takens = All (IsOf lits) takens

-- all that was taken, one after the other
abbrev pub taken_into : List Lit → List ℕ → ℕ → List Taken → List Rounding × List (ℕ × ℤ) → List Rounding × List (ℕ × ℤ)
taken_into lits reasons known [] leaf = leaf
taken_into lits reasons known (taken ∷ takens) leaf = taken_into lits reasons known takens (with_taken (slice_index_or lits taken.literal (Le (of_constant (pos 0)))) taken.side (slice_index_or reasons taken.literal 0) known taken.times leaf)

abbrev pub all_leaf : List Lit → List ℕ → ℕ → List Taken → List Rounding × List (ℕ × ℤ)
all_leaf lits reasons known takens = taken_into lits reasons known takens ([], [])

-- what one literal gives by a rounding
abbrev pub derived_by : List Lit → Rounding → Lit
derived_by known r = Le (rounded r.divisor (combined known ((r.number, r.sign) ∷ [])))

-- the rounding is legal, and what it gives has room
abbrev pub may_round : List Lit → Rounding → Bool
may_round known r = is_multiplier known (r.number, r.sign) && ((int_le (pos 1) r.divisor && is_divided_by r.divisor (combined known ((r.number, r.sign) ∷ []))) && lit_fits (derived_by known r))

abbrev pub derived : List Lit → List Rounding → List Lit
derived known rs = map (derived_by known) rs

-- the roundings above a tree
abbrev pub under : List Rounding → Refutation → Refutation
under [] t = t
under (r ∷ rs) t = tree.Round ((r.number, r.sign) ∷ []) r.divisor (under rs t)

-- the roundings are legal, and the multipliers add up what was taken, at each point
pub record IsClosing (known : List Lit) (readied : List Ready) (rs : List Rounding) (ms : List (ℕ × ℤ)) (takens : List Taken) : Type 0 where
  pub legal : list_all (may_round known) rs ≡ true
  pub multipliers : are_multipliers (known ++ derived known rs) ms ≡ true
  pub value : (point : List ℤ) → value_at point (combined (known ++ derived known rs) ms) ≡ taken_value point readied takens
