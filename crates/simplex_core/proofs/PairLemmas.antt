-- Lists with two numbers for each column, and sums of products that are compared column by column.
use Rattle.std.proofs.Common.{◌≡◌, ℕ, suc, zero, List, [], ◌∷◌, ◌++◌, refl, ap, ◌∙◌, arith, ◌<◌, ◌+◌, ◌*◌, true, length, map, flat_map}
use Rattle.std.specs.Prelude.{ℤ, pos, int_le, ◌&&◌}
use Rattle.std.specs.List.{list_all, range_with_len}
use Rattle.std.proofs.lemmas.List.FromFn.{get_or-map-range_with_len, length-map-range_with_len}
use Rattle.int_rows.specs.Rows.{entry}

-- two numbers are made of each column
abbrev pub Pairs : (ℕ → List ℤ) → (ℕ → ℤ) → (ℕ → ℤ) → Type 0
Pairs f x y = (c : ℕ) → f c ≡ x c ∷ y c ∷ []

pub pairs-length : (f : ℕ → List ℤ) (x y : ℕ → ℤ) → Pairs f x y → (a n : ℕ) → length (flat_map f (range_with_len a n)) ≡ 2 * n
pairs-length f x y h a zero = refl
pairs-length f x y h a (suc n) =
    let rest = flat_map f (range_with_len (a + 1) n) in
    let told = pairs-length f x y h (a + 1) n in
    let first : length (f a ++ rest) ≡ suc (suc (length rest)) = ap (λ (p : List ℤ). length (p ++ rest)) (h a) in
    first ∙ omega arith

pub pairs-first : (f : ℕ → List ℤ) (x y : ℕ → ℤ) → Pairs f x y → (a n v : ℕ) → v < n → entry (flat_map f (range_with_len a n)) (2 * v) ≡ x (a + v)
pairs-first f x y h a zero v k = absurd (omega arith)
pairs-first f x y h a (suc n) zero k =
    let rest = flat_map f (range_with_len (a + 1) n) in
    let same : a ≡ a + 0 = omega arith in
    ap (λ (p : List ℤ). entry (p ++ rest) 0) (h a) ∙ ap x same
pairs-first f x y h a (suc n) (suc v) k =
    let rest = flat_map f (range_with_len (a + 1) n) in
    let place : 2 * suc v ≡ suc (suc (2 * v)) = omega arith in
    let same : a + 1 + v ≡ a + suc v = omega arith in
    ap (λ (p : List ℤ). entry (p ++ rest) (2 * suc v)) (h a) ∙ ap (entry (x a ∷ y a ∷ rest)) place ∙ pairs-first f x y h (a + 1) n v (omega arith) ∙ ap x same

pub pairs-second : (f : ℕ → List ℤ) (x y : ℕ → ℤ) → Pairs f x y → (a n v : ℕ) → v < n → entry (flat_map f (range_with_len a n)) (2 * v + 1) ≡ y (a + v)
pairs-second f x y h a zero v k = absurd (omega arith)
pairs-second f x y h a (suc n) zero k =
    let rest = flat_map f (range_with_len (a + 1) n) in
    let same : a ≡ a + 0 = omega arith in
    ap (λ (p : List ℤ). entry (p ++ rest) 1) (h a) ∙ ap y same
pairs-second f x y h a (suc n) (suc v) k =
    let rest = flat_map f (range_with_len (a + 1) n) in
    let place : 2 * suc v + 1 ≡ suc (suc (2 * v + 1)) = omega arith in
    let same : a + 1 + v ≡ a + suc v = omega arith in
    ap (λ (p : List ℤ). entry (p ++ rest) (2 * suc v + 1)) (h a) ∙ ap (entry (x a ∷ y a ∷ rest)) place ∙ pairs-second f x y h (a + 1) n v (omega arith) ∙ ap y same

pub pairs-natural : (f : ℕ → List ℤ) (x y : ℕ → ℤ) → Pairs f x y → ((c : ℕ) → int_le (pos 0) (x c) ≡ true) → ((c : ℕ) → int_le (pos 0) (y c) ≡ true) → (a n : ℕ) → list_all (λ k. int_le (pos 0) k) (flat_map f (range_with_len a n)) ≡ true
pairs-natural f x y h p q a zero = refl
pairs-natural f x y h p q a (suc n) =
    let rest = flat_map f (range_with_len (a + 1) n) in
    ap (λ (ks : List ℤ). list_all (λ k. int_le (pos 0) k) (ks ++ rest)) (h a)
    ∙ ap (λ b. b && (int_le (pos 0) (y a) && list_all (λ k. int_le (pos 0) k) rest)) (p a)
    ∙ ap (λ b. b && list_all (λ k. int_le (pos 0) k) rest) (q a)
    ∙ pairs-natural f x y h p q (a + 1) n

-- what is made of each column, at a column
pub made-at : (f : ℕ → ℤ) (n v : ℕ) → v < n → entry (map f (range_with_len 0 n)) v ≡ f v
made-at f n v h = get_or-map-range_with_len f 0 n v v (pos 0) h (omega arith)

pub made-length : (f : ℕ → ℤ) (n : ℕ) → length (map f (range_with_len 0 n)) ≡ n
made-length f n = length-map-range_with_len f 0 n
