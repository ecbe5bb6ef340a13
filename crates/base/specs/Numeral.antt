-- Numerals: which digits spell one, and the number that it is (SMT-LIB 2.6, section 3.1).
use Rattle.std.specs.Prelude.{ℕ, ◌+◌, ◌-◌, ◌*◌, List, [], ◌∷◌, Bool, false, ◌&&◌, nat_lt, fold}
use Rattle.std.specs.List.{list_all}
use Rattle.base.specs.Bytes.{is_digit}

-- 0 alone, or digits of which the first is not 0
abbrev pub is_numeral : List ℕ → Bool
is_numeral [] = false
is_numeral (d ∷ []) = is_digit d
is_numeral (d ∷ e ∷ ds) = nat_lt 48 d && list_all is_digit (d ∷ e ∷ ds)

-- the number that digits spell in base ten
abbrev pub number_of : List ℕ → ℕ
number_of ds = fold (λ n d. 10 * n + (d - 48)) 0 ds
