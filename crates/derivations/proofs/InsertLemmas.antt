-- Lists with one item more at a place.
use Rattle.std.proofs.Common.{◌≡◌, ℕ, zero, suc, ◌+◌, ◌-◌, ◌<◌, ◌≤◌, List, [], ◌∷◌, ◌++◌, map, length, get_or, take, drop, refl, ap, ap₂, sym, arith, ◌∙◌, inl, inr}
use Rattle.std.specs.Prelude.{◌⊎◌}
use Rattle.std.specs.List.{AllPairs, Contains, insert}
use Rattle.std.proofs.lemmas.Bool.{cases_order}
use Rattle.std.proofs.lemmas.List.{map-append, take-map, drop-map}
use Rattle.std.proofs.lemmas.List.Edits.{length-insert, get_or-insert_below, get_or-insert_at, get_or-insert_above}
use Rattle.std.proofs.lemmas.List.Sorted.{IsPermutation-insert, IsPermutation-sym, Contains-permutation}
use Rattle.std.proofs.lemmas.List.Elements.{Contains-append_cases, Contains-append_right, Contains-get_or}

-- what is true of each pair after an insert
pub pairs_insert : {X : Type 0} (R : X → X → Type 0) (xs : List X) (i : ℕ) (y : X) → AllPairs R xs → i ≤ length xs
    → ((k : ℕ) (d : X) → k < i → R (get_or xs k d) y) → ((k : ℕ) (d : X) → i ≤ k → k < length xs → R y (get_or xs k d)) → AllPairs R (insert xs i y)
pairs_insert R xs i y pairs within below above a b d less in' = by (cases_order a i) (cases_order b i) where
  long : length (insert xs i y) ≡ length xs + 1
  long = length-insert xs i y within

  low : (k : ℕ) → k < i → get_or (insert xs i y) k d ≡ get_or xs k d
  low k l = get_or-insert_below xs i y d k l within

  at : (k : ℕ) → k ≡ i → get_or (insert xs i y) k d ≡ y
  at k is = ap (λ m. get_or (insert xs i y) m d) is ∙ get_or-insert_at xs i y d within

  high : (k : ℕ) → i < k → get_or (insert xs i y) k d ≡ get_or xs (k - 1) d
  high k l =
      let is : k ≡ k - 1 + 1 = omega arith in
      ap (λ m. get_or (insert xs i y) m d) is ∙ get_or-insert_above xs i y d (k - 1) (omega arith) within

  by : (a ≡ i) ⊎ ((a < i) ⊎ (i < a)) → (b ≡ i) ⊎ ((b < i) ⊎ (i < b)) → R (get_or (insert xs i y) a d) (get_or (insert xs i y) b d)
  by (inl p) (inl q) = absurd (omega arith)
  by (inl p) (inr (inl q)) = absurd (omega arith)
  by (inl p) (inr (inr q)) = rw (at a p, high b q) (above (b - 1) d (omega arith) (omega (arith, long)))
  by (inr (inl p)) (inl q) = rw (low a p, at b q) (below a d p)
  by (inr (inl p)) (inr (inl q)) = rw (low a p, low b q) (pairs a b d less (omega arith))
  by (inr (inl p)) (inr (inr q)) = rw (low a p, high b q) (pairs a (b - 1) d (omega arith) (omega (arith, long)))
  by (inr (inr p)) (inl q) = absurd (omega arith)
  by (inr (inr p)) (inr (inl q)) = absurd (omega arith)
  by (inr (inr p)) (inr (inr q)) = rw (high a p, high b q) (pairs (a - 1) (b - 1) d (omega arith) (omega (arith, long)))

-- where a pair of members stands matters only through the relation
pub pairs_weaker : {X : Type 0} (R S : X → X → Type 0) (xs : List X) → ((x y : X) → Contains xs x → Contains xs y → R x y → S x y) → AllPairs R xs → AllPairs S xs
pairs_weaker R S xs weaker pairs a b d less in' =
    weaker (get_or xs a d) (get_or xs b d) (Contains-get_or xs a d (omega arith)) (Contains-get_or xs b d in') (pairs a b d less in')

-- what is the same of each member is the same list
pub map_members : {X Y : Type 0} (g h : X → Y) (xs : List X) → ((x : X) → Contains xs x → g x ≡ h x) → map g xs ≡ map h xs
map_members g h [] same = refl
map_members g h (x ∷ xs) same = ap (λ y. y ∷ map g xs) (same x (0, omega arith, refl)) ∙ ap (λ ys. h x ∷ ys) (map_members g h xs (λ z has. same z (suc has.0, (let l = has.1 in omega arith), has.2)))

-- of each, after an insert
pub map_insert : {X Y : Type 0} (g : X → Y) (xs : List X) (i : ℕ) (y : X) → map g (insert xs i y) ≡ insert (map g xs) i (g y)
map_insert g xs i y = map-append g (take i xs) (y ∷ drop i xs) ∙ ap₂ (λ low high. low ++ g y ∷ high) (sym (take-map g i xs)) (sym (drop-map g i xs))

-- members after an insert
pub inserted : {X : Type 0} (xs : List X) (i : ℕ) (y z : X) → Contains (insert xs i y) z → (y ≡ z) ⊎ Contains xs z
inserted xs i y z has = by (Contains-append_cases (y ∷ []) xs z (Contains-permutation (insert xs i y) (y ∷ xs) z (IsPermutation-sym (y ∷ xs) (insert xs i y) (IsPermutation-insert xs i y)) has)) where
  by : Contains (y ∷ []) z ⊎ Contains xs z → (y ≡ z) ⊎ Contains xs z
  by (inl (zero, l, is)) = inl is
  by (inl (suc k, l, is)) = absurd (omega arith)
  by (inr there) = inr there

pub insert_has : {X : Type 0} (xs : List X) (i : ℕ) (y : X) → Contains (insert xs i y) y
insert_has xs i y = Contains-permutation (y ∷ xs) (insert xs i y) y (IsPermutation-insert xs i y) (0, omega arith, refl)

pub insert_keeps : {X : Type 0} (xs : List X) (i : ℕ) (y z : X) → Contains xs z → Contains (insert xs i y) z
insert_keeps xs i y z has = Contains-permutation (y ∷ xs) (insert xs i y) z (IsPermutation-insert xs i y) (Contains-append_right (y ∷ []) xs z has)
