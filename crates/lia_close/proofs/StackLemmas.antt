-- What is taken off an end, item by item.
use Rattle.std.proofs.Common.{◌≡◌, ℕ, zero, suc, ◌+◌, List, [], ◌∷◌, ◌++◌, take, drop, refl, ap, ◌∙◌, arith}
use Rattle.refutation_trees.specs.declared.tree.Refutation.{Refutation}
use Rattle.refutation_trees.specs.declared.tree.Refutation.TheViews.{Round}
use Rattle.lia_close.specs.declared.leaf.Rounding.{Rounding}
use Rattle.lia_close.specs.machinery.Closing.{under}

-- one item more of the front
pub take-one : {X : Type 0} (n : ℕ) (xs : List X) → take (n + 1) xs ≡ take n xs ++ take 1 (drop n xs)
take-one zero [] = refl
take-one zero (x ∷ xs) = refl
take-one {X} (suc n) [] = let more : suc n + 1 ≡ suc (n + 1) = omega arith in ap (λ (k : ℕ). take {A = X} k []) more
take-one (suc n) (x ∷ xs) = let more : suc n + 1 ≡ suc (n + 1) = omega arith in ap (λ (k : ℕ). take k (x ∷ xs)) more ∙ ap (λ ys. x ∷ ys) (take-one n xs)

pub drop-one : {X : Type 0} (n : ℕ) (xs : List X) → drop (n + 1) xs ≡ drop 1 (drop n xs)
drop-one zero [] = refl
drop-one zero (x ∷ xs) = refl
drop-one {X} (suc n) [] = let more : suc n + 1 ≡ suc (n + 1) = omega arith in ap (λ (k : ℕ). drop {A = X} k []) more
drop-one (suc n) (x ∷ xs) = let more : suc n + 1 ≡ suc (n + 1) = omega arith in ap (λ (k : ℕ). drop k (x ∷ xs)) more ∙ drop-one n xs

-- the last rounding stands next to the tree
pub under-push : (rs us : List Rounding) (r : Rounding) (t : Refutation) → us ≡ rs ++ r ∷ [] → under us t ≡ under rs (Round ((r.number, r.sign) ∷ []) r.divisor t)
under-push rs us r t e = ap (λ (xs : List Rounding). under xs t) e ∙ last rs where
  last : (rs : List Rounding) → under (rs ++ r ∷ []) t ≡ under rs (Round ((r.number, r.sign) ∷ []) r.divisor t)
  last [] = refl
  last (x ∷ rs) = ap (λ (u : Refutation). Round ((x.number, x.sign) ∷ []) x.divisor u) (last rs)
