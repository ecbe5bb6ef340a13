-- Elimination of variables from a conjunction of literals over the integers at a model of it (Cooper 1972): the model chooses one bound in place of a disjunction over all of them (Loos and Weispfenning 1993; Bjørner and Janota 2015, Playing with quantified satisfaction; Komuravelli, Gurfinkel and Chaki 2014).
use Rattle.std.specs.Prelude.{ℕ, zero, suc, ◌*◌, ◌/◌, ◌%◌, List, [], ◌∷◌, length, Option, None, Some, ℤ, pos, neg_ℤ, nat_abs, nat_lt, int_lt, ◌==◌, ◌&&◌, ◌||◌, Bool, true, false, not, if◌then◌else◌}
use Rattle.std.specs.Int.{int_rem_euclid}
use Rattle.std.specs.List.{list_all, list_any, filter}
use Rattle.base.specs.Widths.{short_limit}
use Rattle.lin_atoms.specs.Linear.{Linear, is_short, value_at, variable_at}
use Rattle.lin_atoms.specs.Algebra.{plus}
use Rattle.lin_atoms.specs.Denial.{linear_of}
use Rattle.lin_atoms.specs.declared.lit.Lit.{Lit}
use Rattle.lin_atoms.specs.declared.lit.Lit.TheVariants.{Le, Eq, Div, NDiv}
use Rattle.model_project.specs.Substitution.{coefficient, occurs, solved, is_equation}

-- the greatest common divisor by Euclid's algorithm (Elements, VII.2), of which each turn is one remainder
abbrev pub gcd_in : ℕ → ℕ → ℕ → ℕ
gcd_in zero a b = a
gcd_in (suc turns) a b = if b == 0 then a else gcd_in turns b (a % b)

unfoldable pub greatest_divisor : ℕ → ℕ → ℕ
greatest_divisor a b = gcd_in (suc b) a b

-- the least common multiple (Elements, VII.34)
unfoldable pub least_multiple : ℕ → ℕ → ℕ
least_multiple a b = a * (b / greatest_divisor a b)

-- the divisor of a literal, 1 without one
abbrev pub divisor : Lit → ℕ
divisor (Le lin) = 1
divisor (Eq lin) = 1
divisor (Div d lin) = d
divisor (NDiv d lin) = d

-- D: the least common multiple of the divisors of the literals in which v occurs
abbrev pub period : ℕ → List Lit → ℕ
period v [] = 1
period v (lit ∷ lits) = if occurs v lit then least_multiple (period v lits) (divisor lit) else period v lits

-- whether each number of a literal is short
abbrev pub has_short_numbers : Lit → Bool
has_short_numbers lit = list_all (λ t. is_short t.1) (linear_of lit).terms && (is_short (linear_of lit).constant && nat_lt (divisor lit) short_limit)

abbrev pub has_variable : Lit → Bool
has_variable lit = nat_lt 0 (length (linear_of lit).terms)

-- literals without a variable are left out; nothing where a number of the others is wide
abbrev pub unless_wide : List Lit → Option (List Lit)
unless_wide lits = if list_all has_short_numbers lits then Some lits else None

abbrev pub tidied : List Lit → Option (List Lit)
tidied lits = unless_wide (filter has_variable lits)

-- the gap of a bound: minus its value at the model, where it is at most 0
abbrev pub gap : List ℤ → Linear → ℕ
gap model lin = nat_abs (value_at model lin)

-- the bounds from below have a negative coefficient, those from above a positive one
abbrev pub on_side : Bool → ℤ → Bool
on_side true a = int_lt a (pos 0)
on_side false a = int_lt (pos 0) a

abbrev pub is_bound : Bool → ℕ → Lit → Bool
is_bound below v (Le lin) = on_side below (coefficient v lin)
is_bound below v (Eq lin) = false
is_bound below v (Div d lin) = false
is_bound below v (NDiv d lin) = false

-- whether the first gap, divided by the magnitude of its coefficient, is less than the second
abbrev pub is_nearer : List ℤ → ℕ → Linear → Linear → Bool
is_nearer model v a b = nat_lt (gap model a * nat_abs (coefficient v b)) (gap model b * nat_abs (coefficient v a))

abbrev pub nearer : List ℤ → ℕ → Linear → Option Linear → Option Linear
nearer model v lin None = Some lin
nearer model v lin (Some other) = if is_nearer model v other lin then Some other else Some lin

-- the bound whose gap is least, the first of several
abbrev pub nearest : List ℤ → Bool → ℕ → List Lit → Option Linear
nearest model below v [] = None
nearest model below v (lit ∷ lits) = if is_bound below v lit then nearer model v (linear_of lit) (nearest model below v lits) else nearest model below v lits

abbrev pub gaps_are_short : List ℤ → Bool → ℕ → List Lit → Bool
gaps_are_short model below v lits = list_all (λ lit. not (is_bound below v lit) || nat_lt (gap model (linear_of lit)) short_limit) lits

-- an equation is put before the literals, and removes v
abbrev pub put_before : ℕ → Linear → List Lit → Option (List Lit)
put_before v equation lits = if has_short_numbers (Eq equation) then tidied (solved v (Eq equation ∷ lits)) else None

-- v is put as near to a bound as the divisors allow: l + r = 0, where r is its gap modulo a * D
abbrev pub by_bound : List ℤ → ℕ → List Lit → ℕ → Linear → Option (List Lit)
by_bound model v lits d lin =
    if nat_lt d short_limit && nat_lt (nat_abs (coefficient v lin) * d) short_limit then put_before v (plus lin (pos (gap model lin % (nat_abs (coefficient v lin) * d)))) lits else None

abbrev pub by_nearest : List ℤ → ℕ → List Lit → Option Linear → Option (List Lit)
by_nearest model v lits None = None
by_nearest model v lits (Some lin) = by_bound model v lits (period v lits) lin

abbrev pub by_bounds : List ℤ → Bool → ℕ → List Lit → Option (List Lit)
by_bounds model below v lits = if gaps_are_short model below v lits then by_nearest model v lits (nearest model below v lits) else None

-- v is its rest modulo D: v - r = 0
abbrev pub rest_equation : ℕ → ℤ → Linear
rest_equation v r = record { terms = (v, pos 1) ∷ []; constant = neg_ℤ r }

abbrev pub by_rest : List ℤ → ℕ → List Lit → Option (List Lit)
by_rest model v lits = if nat_lt (period v lits) short_limit then put_before v (rest_equation v (int_rem_euclid (variable_at model v) (pos (period v lits)))) lits else None

-- the first rule that fits removes a variable
abbrev pub removed : List ℤ → ℕ → List Lit → Option (List Lit)
removed model v lits =
    if not (list_any (occurs v) lits) then Some lits
    else (if list_any (is_equation v) lits then tidied (solved v lits)
    else (if list_any (is_bound true v) lits then by_bounds model true v lits
    else (if list_any (is_bound false v) lits then by_bounds model false v lits
    else by_rest model v lits)))
