-- An equation removes a variable from literals over the integers (Cooper 1972, Theorem proving in arithmetic without multiplication; Loos and Weispfenning 1993, Applying linear quantifier elimination).
use Rattle.std.specs.Prelude.{ℕ, ◌*◌, List, [], ◌∷◌, ◌++◌, Option, None, Some, ℤ, pos, ◌+ℤ◌, neg_ℤ, nat_abs, nat_lt, int_lt, ◌==◌, ◌&&◌, Bool, true, false, not, if◌then◌else◌}
use Rattle.std.specs.List.{filter}
use Rattle.lin_atoms.specs.Linear.{Linear}
use Rattle.lin_atoms.specs.Algebra.{added, negated, scaled}
use Rattle.lin_atoms.specs.Denial.{linear_of}
use Rattle.lin_atoms.specs.declared.lit.Lit.{Lit}
use Rattle.lin_atoms.specs.declared.lit.Lit.TheVariants.{Le, Eq, Div, NDiv}

-- the coefficient of a variable, 0 where it doesn't occur
abbrev pub coefficient_in : ℕ → List (ℕ × ℤ) → ℤ
coefficient_in v [] = pos 0
coefficient_in v (t ∷ ts) = if t.0 == v then t.1 +ℤ coefficient_in v ts else coefficient_in v ts

abbrev pub coefficient : ℕ → Linear → ℤ
coefficient v lin = coefficient_in v lin.terms

abbrev pub lin_has : ℕ → Linear → Bool
lin_has v lin = nat_lt 0 (nat_abs (coefficient v lin))

-- whether a variable occurs
abbrev pub occurs : ℕ → Lit → Bool
occurs v lit = lin_has v (linear_of lit)

abbrev pub is_equation : ℕ → Lit → Bool
is_equation v (Le lin) = false
is_equation v (Eq lin) = lin_has v lin
is_equation v (Div d lin) = false
is_equation v (NDiv d lin) = false

-- the first equation in which the variable occurs
abbrev pub equation_in : ℕ → List Lit → Option Linear
equation_in v [] = None
equation_in v (lit ∷ lits) = if is_equation v lit then Some (linear_of lit) else equation_in v lits

-- a * v + t with a above 0, by a change of all signs where a is below 0
abbrev pub upright : ℕ → Linear → Linear
upright v lin = if int_lt (coefficient v lin) (pos 0) then negated lin else lin

-- the form but for one variable: t
abbrev pub without : ℕ → Linear → Linear
without v lin = record { terms = filter (λ t. not (t.0 == v)) lin.terms; constant = lin.constant }

-- what a * v + t = 0 leaves of itself: a divides t
abbrev pub left_over : ℕ → Linear → List Lit
left_over v equation = if nat_abs (coefficient v equation) == 1 then [] else Div (nat_abs (coefficient v equation)) (without v equation) ∷ []

-- of b * v + s the form a * s - b * t, as a times the one less b times the other: v goes out
abbrev pub crossed : ℕ → Linear → Linear → Linear
crossed v equation lin = added (scaled (coefficient v equation) lin) (scaled (neg_ℤ (coefficient v lin)) equation)

-- where v occurs the form is crossed with a * v + t, and a divisor times a
abbrev pub crossed_lit : ℕ → Linear → Lit → Lit
crossed_lit v equation (Le lin) = Le (crossed v equation lin)
crossed_lit v equation (Eq lin) = Eq (crossed v equation lin)
crossed_lit v equation (Div d lin) = Div (nat_abs (coefficient v equation) * d) (crossed v equation lin)
crossed_lit v equation (NDiv d lin) = NDiv (nat_abs (coefficient v equation) * d) (crossed v equation lin)

abbrev pub substituted : ℕ → Linear → Lit → Lit
substituted v equation lit = if occurs v lit then crossed_lit v equation lit else lit

-- the literals after the substitution: the first equation in which v occurs leaves what it leaves in its place, unless it came before
abbrev pub replaced : ℕ → Linear → Bool → List Lit → List Lit
replaced v equation came [] = []
replaced v equation came (lit ∷ lits) = if not came && is_equation v lit then left_over v equation ++ replaced v equation true lits else substituted v equation lit ∷ replaced v equation came lits

-- v is removed by the first equation in which it occurs
abbrev pub by_equation : ℕ → Option Linear → List Lit → List Lit
by_equation v None lits = lits
by_equation v (Some equation) lits = replaced v (upright v equation) false lits

abbrev pub solved : ℕ → List Lit → List Lit
solved v lits = by_equation v (equation_in v lits) lits
