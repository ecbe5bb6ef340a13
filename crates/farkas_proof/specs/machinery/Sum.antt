-- What a sum in the making stands for.
use Rattle.std.specs.Prelude.{◌≡◌, ℕ, ◌^◌, ◌≤◌, List, ℤ, map, nat_le, neg_ℤ, Bool, true}
use Rattle.std.specs.List.{list_all}
use Rattle.lin_atoms.specs.machinery.Accumulator.{Total}
use Rattle.lin_atoms.specs.Linear.{Linear, are_ordered}

abbrev pub seen : List (ℕ × Total) → List (ℕ × ℤ)
seen ts = map (λ t. (t.0, t.1.value)) ts

-- no coefficient has more products than the number
abbrev pub are_counted : ℕ → List (ℕ × Total) → Bool
are_counted n ts = list_all (λ t. nat_le t.1.added n) ts

-- the form that a sum stands for: it keeps the constant with the other sign
abbrev pub standing : List (ℕ × Total) → Total → Linear
standing ts negated = record { terms = seen ts; constant = neg_ℤ negated.value }

-- the variables rise and no coefficient is 0, and there is room for more products as far as they are counted
pub record IsSum (ts : List (ℕ × Total)) (negated : Total) (products : ℕ) : Type 0 where
  pub ordered : are_ordered 0 (seen ts) ≡ true
  pub counted : are_counted products ts ≡ true
  pub constant : negated.added ≤ products
  pub within : products ≤ 2 ^ 32
