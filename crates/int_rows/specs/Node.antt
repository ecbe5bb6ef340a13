-- The tableau of literals as equations: a slack for each form of two or more variables, and bounds on slacks and variables (Dutertre and de Moura, A Fast Linear-Arithmetic Solver for DPLL(T), section 3).
use Rattle.std.specs.Prelude.{ℕ, ◌+◌, List, [], ◌∷◌, ◌++◌, map, ℤ, pos, neg_ℤ, int_le, int_lt, nat_abs, nat_lt, Bool, not, ◌&&◌, ◌==◌, length, Option, Some, None, if◌then◌else◌}
use Rattle.std.specs.List.{filter, range_with_len}
use Rattle.std.specs.Option.{option_map}
use Rattle.lin_atoms.specs.Linear.{Linear}
use Rattle.lin_atoms.specs.declared.lit.Lit.{Lit}
use Rattle.lin_atoms.specs.declared.lit.Lit.TheVariants.{Le, Eq, Div, NDiv}
use Rattle.int_rows.specs.Basis.{System}
use Rattle.int_rows.specs.Ready.{has_no_variable, ready}
use Rattle.int_rows.specs.declared.bounds.Bounded.{Bounded}
use Rattle.int_rows.specs.declared.bounds.Ready.{Ready}
use Rattle.int_rows.specs.declared.bounds.Ready.TheVariants.{Truth, Bounds}

-- the coefficient of a variable, which is 0 where it doesn't occur
abbrev pub coefficient : List (ℕ × ℤ) → ℕ → ℤ
coefficient [] v = pos 0
coefficient (t ∷ ts) v = if t.0 == v then t.1 else coefficient ts v

-- the slack equals the form without its constant: slack - form = 0
abbrev pub equation : ℕ → ℕ → Linear → List ℤ
equation columns slack lin = map (λ c. if c == slack then pos 1 else neg_ℤ (coefficient lin.terms c)) (range_with_len 0 columns)

-- one for each form, whose slacks are numbered on
abbrev pub equations : ℕ → ℕ → List Linear → List (List ℤ)
equations columns slack [] = []
equations columns slack (lin ∷ lins) = equation columns slack lin ∷ equations columns (slack + 1) lins

-- how many quotients a literal brings: one for a divisibility with a variable
abbrev pub quotients : Lit → ℕ
quotients (Le lin) = 0
quotients (Eq lin) = 0
quotients (Div n lin) = if has_no_variable (Div n lin) then 0 else 1
quotients (NDiv n lin) = if has_no_variable (NDiv n lin) then 0 else 1

-- the first number that is no variable's and no quotient's, where quotients are numbered on from q
abbrev pub end_of_quotients : ℕ → List Lit → ℕ
end_of_quotients q [] = q
end_of_quotients q (lit ∷ lits) = end_of_quotients (q + quotients lit) lits

abbrev pub bounds_of : Ready → List Bounded
bounds_of (Truth truth) = []
bounds_of (Bounds b) = b ∷ []

-- what the literals with a variable say
abbrev pub all_bounds : ℕ → List Lit → List Bounded
all_bounds q [] = []
all_bounds q (lit ∷ lits) = bounds_of (ready q lit) ++ all_bounds (q + quotients lit) lits

-- whether the form has two or more variables
abbrev pub has_row : Bounded → Bool
has_row b = nat_lt 1 (length b.form.terms)

abbrev pub in_rows : List Bounded → List Bounded
in_rows bs = filter has_row bs

-- the tighter of two bounds
abbrev pub greater : Option ℤ → Option ℤ → Option ℤ
greater None k = k
greater (Some j) None = Some j
greater (Some j) (Some k) = Some (if int_le j k then k else j)

abbrev pub lesser : Option ℤ → Option ℤ → Option ℤ
lesser None k = k
lesser (Some j) None = Some j
lesser (Some j) (Some k) = Some (if int_le j k then j else k)

-- whether the form is the variable, or the variable with the other sign
abbrev pub is_on : ℕ → Bounded → Bool
is_on v b = (length b.form.terms == 1) && not (nat_abs (coefficient b.form.terms v) == 0)

abbrev pub lower_on : ℕ → Bounded → Option ℤ
lower_on v b = if is_on v b then (if int_lt (pos 0) (coefficient b.form.terms v) then b.lower else option_map neg_ℤ b.upper) else None

abbrev pub upper_on : ℕ → Bounded → Option ℤ
upper_on v b = if is_on v b then (if int_lt (pos 0) (coefficient b.form.terms v) then b.upper else option_map neg_ℤ b.lower) else None

-- the tightest bounds on a variable
abbrev pub greatest_lower : List Bounded → ℕ → Option ℤ
greatest_lower [] v = None
greatest_lower (b ∷ bs) v = greater (lower_on v b) (greatest_lower bs v)

abbrev pub least_upper : List Bounded → ℕ → Option ℤ
least_upper [] v = None
least_upper (b ∷ bs) v = lesser (upper_on v b) (least_upper bs v)

-- the equations and bounds of what is said of `variables` variables
abbrev pub system_of : ℕ → List Bounded → System
system_of variables bs =
    let columns = variables + length (in_rows bs) in
    record {
      variables = variables;
      columns = columns;
      equations = equations columns variables (map (λ b. b.form) (in_rows bs));
      lower = map (greatest_lower bs) (range_with_len 0 variables) ++ map (λ b. b.lower) (in_rows bs);
      upper = map (least_upper bs) (range_with_len 0 variables) ++ map (λ b. b.upper) (in_rows bs);
    }

-- the tableau of a node's literals: first the variables, which are below q, then the quotients, then the slacks, both in order of the literals
abbrev pub system : ℕ → List Lit → System
system q lits = system_of (end_of_quotients q lits) (all_bounds q lits)
