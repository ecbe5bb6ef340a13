-- Marks on facts, from the greatest number down.
use Rattle.std.specs.Prelude.{ℕ, ◌≡◌, ◌<◌, ◌≤◌, ◌+◌, List, Bool, true, false, length, get_or, ◌↔◌}
use Rattle.std.specs.List.{AllPairs, Contains}
use Rattle.derivations.specs.declared.fact.Fact.{Fact}
use Rattle.derivations.specs.Facts.{fact_premises, RestsOn}

abbrev pub IsMarked : List Bool → ℕ → Type 0
IsMarked marks m = get_or marks m false ≡ true

-- only what fact n rests on is marked, n is, and so are the premises of each marked one from i on
pub record AreMarked (facts : List Fact) (n i : ℕ) (marks : List Bool) : Type 0 where
  pub long : length marks ≡ n + 1
  pub sound : (m : ℕ) → IsMarked marks m → RestsOn facts n m
  pub first : IsMarked marks n
  pub closed : (p q : ℕ) → i ≤ p → IsMarked marks p → Contains (fact_premises facts p) q → IsMarked marks q

-- the marked numbers among the first i
pub record AreCollected (marks : List Bool) (i : ℕ) (steps : List ℕ) : Type 0 where
  pub order : AllPairs (λ x y. x < y) steps
  pub exact : (m : ℕ) → Contains steps m ↔ ((m < i) × IsMarked marks m)
