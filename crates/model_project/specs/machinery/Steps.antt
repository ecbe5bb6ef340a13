-- Words for what the code keeps while it removes a variable.
use Rattle.std.specs.Prelude.{◌≡◌, ℕ, List, [], ◌∷◌, ◌++◌, Option, Some, Bool, nat_lt}
use Rattle.std.specs.List.{list_all, filter}
use Rattle.std.specs.Option.{option_map}
use Rattle.lin_atoms.specs.Linear.{Linear, are_ordered}
use Rattle.lin_atoms.specs.Denial.{linear_of}
use Rattle.lin_atoms.specs.declared.lit.Lit.{Lit}
use Rattle.model_project.specs.Substitution.{equation_in, upright}
use Rattle.model_project.specs.Elimination.{divisor, has_variable, has_short_numbers}

-- the first equation, made upright
abbrev pub EquationIs : ℕ → Linear → List Lit → Type 0
EquationIs v l lits = (e : Linear) × (equation_in v lits ≡ Some e) × (l ≡ upright v e)

-- what the literals give, from what the rest of them gives
abbrev pub behind : List Lit → Option (List Lit) → Option (List Lit)
behind made rest = option_map (λ ws. made ++ ws) rest

-- what a literal leaves of itself
abbrev pub one : Lit → List Lit
one lit = filter has_variable (lit ∷ [])

-- the literals that are left, all of them narrow
abbrev pub are_narrow : List Lit → Bool
are_narrow lits = list_all has_short_numbers lits

-- divisors above 0
abbrev pub has_divisor : Lit → Bool
has_divisor lit = nat_lt 0 (divisor lit)

abbrev pub have_divisors : List Lit → Bool
have_divisors lits = list_all has_divisor lits

-- the order of a literal's terms
abbrev pub are_legal : List Lit → Bool
are_legal lits = list_all (λ lit. are_ordered 0 (linear_of lit).terms) lits
