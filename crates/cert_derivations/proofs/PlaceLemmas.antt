-- The place of a number among numbers that ascend.
use Rattle.std.proofs.Common.{◌≡◌, ℕ, suc, ◌+◌, ◌<◌, ◌≤◌, List, [], ◌∷◌, ◌++◌, map, take, Bool, length, get_or, ap, sym, ◌∙◌, subst, arith, inl, inr}
use Rattle.std.specs.Prelude.{◌==◌, ◌⊎◌}
use Rattle.std.specs.List.{AllPairs}
use Rattle.std.proofs.lemmas.Bool.{cases_lt, eq-eqb, ne_eqb}
use Rattle.std.proofs.lemmas.List.{map-append, map_more}
use Rattle.std.proofs.lemmas.List.Sums.{position_or_len_is}
use Rattle.cert_derivations.specs.Steps.{place_among}

abbrev pub Ascend : List ℕ → Type 0
Ascend xs = AllPairs (λ x y. x < y) xs

pub ascends : (xs : List ℕ) → Ascend xs → (i j : ℕ) → i ≤ j → j < length xs → get_or xs i 0 ≤ get_or xs j 0
ascends xs order i j le within = by (cases_lt i j)
  where
    by : (i < j) ⊎ (j ≤ i) → get_or xs i 0 ≤ get_or xs j 0
    by (inl less) = let rises : get_or xs i 0 < get_or xs j 0 = order i j 0 less within in omega (arith, rises)
    by (inr more) = let is : i ≡ j = omega (arith, le, more) in subst (λ k. get_or xs i 0 ≤ get_or xs k 0) is (omega arith)

pub place-found : (xs : List ℕ) (x i : ℕ) → Ascend xs → i < length xs → get_or xs i 0 ≡ x → place_among xs x ≡ i
place-found xs x i order within at = position_or_len_is (λ m. m == x) xs i 0 (omega (arith, within)) before (λ less. eq-eqb (get_or xs i 0) x at)
  where
    before : (k : ℕ) → k < i → (get_or xs k 0 == x) ≡ Bool.false
    before k less = ne_eqb (get_or xs k 0) x (λ same. let rises : get_or xs k 0 < get_or xs i 0 = order k i 0 less within in absurd (omega (arith, rises, at, same)))

pub place-missed : (xs : List ℕ) (x i : ℕ) → ((k : ℕ) → k < i → get_or xs k 0 < x) → ((k : ℕ) → i ≤ k → k < length xs → x < get_or xs k 0) → place_among xs x ≡ length xs
place-missed xs x i low high = position_or_len_is (λ m. m == x) xs (length xs) 0 (omega arith) (λ k within. ne_eqb (get_or xs k 0) x (λ same. apart k within same (cases_lt k i))) (λ less. absurd (omega (arith, less)))
  where
    apart : (k : ℕ) → k < length xs → get_or xs k 0 ≡ x → (k < i) ⊎ (i ≤ k) → ⊥
    apart k within same (inl less) = (let below = low k less in omega (arith, below, same))
    apart k within same (inr more) = (let above = high k more within in omega (arith, above, same))

-- one more premise
pub numbers-more : (among facts : List ℕ) (i : ℕ) (old new : List ℕ) (number : ℕ) → i < length facts → number ≡ suc (place_among among (get_or facts i 0)) → new ≡ old ++ number ∷ []
    → old ≡ map (λ p. suc p) (map (place_among among) (take i facts)) → new ≡ map (λ p. suc p) (map (place_among among) (take (i + 1) facts))
numbers-more among facts i old new number within is pushed so_far =
    pushed ∙ ap (λ (ns : List ℕ). ns ++ number ∷ []) so_far ∙ ap (λ (n : ℕ). map (λ p. suc p) (map (place_among among) (take i facts)) ++ n ∷ []) is
    ∙ sym (map-append (λ (p : ℕ). suc p) (map (place_among among) (take i facts)) (place_among among (get_or facts i 0) ∷ []))
    ∙ ap (map (λ (p : ℕ). suc p)) (sym (map_more (place_among among) facts i 0 within))
