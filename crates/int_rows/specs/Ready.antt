-- A literal made ready for a tableau: bounds on a form without a constant, rounded as Chvátal and Gomory round a single literal, and the quotient of a divisibility as a variable (Schrijver, Theory of Linear and Integer Programming, section 23.1).
use Rattle.std.specs.Prelude.{ℕ, List, [], ◌∷◌, ◌++◌, map, ℤ, pos, ◌-ℤ◌, neg_ℤ, int_le, Bool, true, ◌&&◌, ◌==◌, length, Option, Some, None, if◌then◌else◌}
use Rattle.std.specs.Int.{int_div_euclid}
use Rattle.std.specs.Option.{option_map_or}
use Rattle.lin_atoms.specs.Algebra.{negated}
use Rattle.lin_atoms.specs.Denial.{linear_of}
use Rattle.lin_atoms.specs.Linear.{Linear, fits, is_long, sum_at}
use Rattle.lin_atoms.specs.Truth.{lit_truth}
use Rattle.lin_atoms.specs.declared.lit.Lit.{Lit}
use Rattle.lin_atoms.specs.declared.lit.Lit.TheVariants.{Le, Eq, Div, NDiv}
use Rattle.int_rows.specs.Rows.{content}
use Rattle.int_rows.specs.declared.bounds.Bounded.{Bounded}
use Rattle.int_rows.specs.declared.bounds.Ready.{Ready}
use Rattle.int_rows.specs.declared.bounds.Ready.TheVariants.{Truth, Bounds}

-- the greatest common divisor of the coefficients
abbrev pub lin_content : Linear → ℕ
lin_content lin = content (map (λ t. t.1) lin.terms)

-- of S + c at most 0, where d divides S: S / d is at most c / d rounded down, with the other sign
abbrev pub rounded : ℤ → Linear → Linear
rounded d lin = record { terms = map (λ t. (t.0, int_div_euclid t.1 d)) lin.terms; constant = neg_ℤ (int_div_euclid (neg_ℤ lin.constant) d) }

-- a form of integers whose coefficients only 1 divides
abbrev pub tightened : Linear → Linear
tightened lin = rounded (pos (lin_content lin)) lin

abbrev pub without_constant : Linear → Linear
without_constant lin = record { terms = lin.terms; constant = pos 0 }

-- l - n * q, where q is above every variable of l
abbrev pub less_multiple : ℕ → ℕ → Linear → Linear
less_multiple n q lin = record { terms = lin.terms ++ (q, neg_ℤ (pos n)) ∷ []; constant = lin.constant }

-- what bounds l from above by l at most 0, and from below by 0 at most l
abbrev pub most : Linear → ℤ
most lin = neg_ℤ (tightened lin).constant

abbrev pub least : Linear → ℤ
least lin = (rounded (pos (lin_content lin)) (negated lin)).constant

-- bounds on the form without its constant, which lies between two numbers with it
abbrev pub between : ℤ → ℤ → Linear → Bounded
between low high lin = record { form = without_constant lin; lower = Some (low -ℤ lin.constant); upper = Some (high -ℤ lin.constant) }

-- what a literal with a variable says, where q is the variable for its quotient
abbrev pub bounded : ℕ → Lit → Bounded
bounded q (Le lin) = record { form = without_constant (tightened lin); lower = None; upper = Some (most lin) }
bounded q (Eq lin) = record { form = without_constant (tightened lin); lower = Some (least lin); upper = Some (most lin) }
bounded q (Div n lin) = between (pos 0) (pos 0) (less_multiple n q lin)
bounded q (NDiv n lin) = between (pos 1) (pos n -ℤ pos 1) (less_multiple n q lin)

-- whether a variable occurs
abbrev pub has_no_variable : Lit → Bool
has_no_variable lit = length (linear_of lit).terms == 0

-- a literal without a variable counts by its truth, and has no quotient
abbrev pub ready : ℕ → Lit → Ready
ready q lit = if has_no_variable lit then Truth (lit_truth [] lit) else Bounds (bounded q lit)

abbrev pub bound_fits : Option ℤ → Bool
bound_fits bound = option_map_or is_long bound true

abbrev pub bounded_fits : Bounded → Bool
bounded_fits b = fits b.form && (bound_fits b.lower && bound_fits b.upper)

-- whether all numbers have room in the code
abbrev pub ready_fits : Ready → Bool
ready_fits (Truth truth) = true
ready_fits (Bounds b) = bounded_fits b

-- whether the bounds hold at a point
abbrev pub is_bounded_at : List ℤ → Bounded → Bool
is_bounded_at point b = option_map_or (λ l. int_le l (sum_at point b.form.terms)) b.lower true && option_map_or (λ u. int_le (sum_at point b.form.terms) u) b.upper true

abbrev pub ready_truth : List ℤ → Ready → Bool
ready_truth point (Truth truth) = truth
ready_truth point (Bounds b) = is_bounded_at point b
