-- Lists of standings as numbers in base 4.
use Rattle.std.specs.Prelude.{ℕ, zero, suc, ◌+◌, ◌*◌, List, [], ◌∷◌}
use Rattle.simplex_core.specs.declared.standing.Standing.{Standing}
use Rattle.simplex_core.specs.declared.standing.Standing.TheVariants.{Basic, AtLower, AtUpper, AtZero}

-- the digit of a standing
abbrev pub code : Standing → ℕ
code Basic = 0
code AtLower = 1
code AtUpper = 2
code AtZero = 3

-- the standing of a digit
abbrev pub of_code : ℕ → Standing
of_code zero = Basic
of_code (suc zero) = AtLower
of_code (suc (suc zero)) = AtUpper
of_code (suc (suc (suc n))) = AtZero

-- the number of a list of standings, the digit of the first of them in its lowest place
abbrev pub number : List Standing → ℕ
number [] = 0
number (s ∷ standings) = code s + 4 * number standings
