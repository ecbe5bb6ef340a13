-- Lists of claims and of workers.
use Rattle.std.proofs.Common.{◌≡◌, ℕ, zero, suc, ◌+◌, ◌<◌, List, [], ◌∷◌, ◌++◌, get_or, set, None, refl, ap, ◌∙◌, arith}
use Rattle.std.specs.Prelude.{Option}
use Rattle.std.specs.List.{range_with_len}

-- the first claims are none, and one more
pub cleared : (xs : List (Option ℕ)) (n i : ℕ) → (i < n → get_or xs i None ≡ None) → i < n + 1 → get_or (set xs n None) i None ≡ None
cleared [] n i h lt = refl
cleared (x ∷ xs) zero zero h lt = refl
cleared (x ∷ xs) zero (suc i) h lt = absurd (omega (arith, lt))
cleared (x ∷ xs) (suc n) zero h lt = h (omega arith)
cleared (x ∷ xs) (suc n) (suc i) h lt = cleared xs n i (λ w. h (omega (arith, w))) (omega (arith, lt))

pub range-more : (first count : ℕ) → range_with_len first (count + 1) ≡ range_with_len first count ++ (first + count) ∷ []
range-more first zero = ap (λ (n : ℕ). n ∷ []) (omega arith)
range-more first (suc count) =
    let turned : suc count + 1 ≡ suc (count + 1) = omega arith in
    let last : first + 1 + count ≡ first + suc count = omega arith in
    ap (λ (n : ℕ). range_with_len first n) turned ∙ ap (λ (ns : List ℕ). first ∷ ns) (range-more (first + 1) count ∙ ap (λ (n : ℕ). range_with_len (first + 1) count ++ n ∷ []) last)
