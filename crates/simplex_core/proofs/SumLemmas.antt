-- Sums over the numbers below another.
use Rattle.std.proofs.Common.{◌≡◌, ℕ, suc, zero, List, [], ◌∷◌, refl, ap, ◌∙◌, arith, ◌<◌, ◌≤◌, ◌+◌, true, false, Bool, cond, length, get_or, drop, filter, map, ⊎_elim}
use Rattle.std.specs.Prelude.{ℤ, pos, neg_ℤ, ◌+ℤ◌, ◌-ℤ◌, ◌*ℤ◌, ◌≤ℤ◌}
use Rattle.std.specs.List.{range_with_len}
use Rattle.std.proofs.Math.Nat.{eq-or-lt_of_le}
use Rattle.std.proofs.lemmas.Int.{ints}
use Rattle.std.proofs.lemmas.List.{drop_more}
use Rattle.lin_atoms.specs.Dot.{dot}
use Rattle.int_rows.specs.Rows.{entry}

-- the sum of what is made of n numbers from a on
abbrev pub total : (ℕ → ℤ) → ℕ → ℕ → ℤ
total h a zero = pos 0
total h a (suc n) = h a +ℤ total h (a + 1) n

pub total-same : (h k : ℕ → ℤ) (a n : ℕ) → ((c : ℕ) → a ≤ c → c < a + n → h c ≡ k c) → total h a n ≡ total k a n
total-same h k a zero e = refl
total-same h k a (suc n) e =
    let first = e a (omega arith) (omega arith) in
    let rest = total-same h k (a + 1) n (λ c low high. e c (omega arith) (omega arith)) in
    omega (arith, ints)

pub total-minus : (h k : ℕ → ℤ) (a n : ℕ) → total h a n -ℤ total k a n ≡ total (λ c. h c -ℤ k c) a n
total-minus h k a zero = omega (arith, ints)
total-minus h k a (suc n) =
    let rest = total-minus h k (a + 1) n in
    omega (arith, ints)

pub total-neg : (h : ℕ → ℤ) (a n : ℕ) → total (λ c. neg_ℤ (h c)) a n ≡ neg_ℤ (total h a n)
total-neg h a zero = omega (arith, ints)
total-neg h a (suc n) =
    let rest = total-neg h (a + 1) n in
    omega (arith, ints)

pub total-shift : (h : ℕ → ℤ) (a n : ℕ) → total h (a + 1) n ≡ total (λ c. h (c + 1)) a n
total-shift h a zero = refl
total-shift h a (suc n) =
    let rest = total-shift h (a + 1) n in
    omega (arith, ints)

pub total-below : (h k : ℕ → ℤ) (a n : ℕ) → ((c : ℕ) → a ≤ c → c < a + n → h c ≤ℤ k c) → total h a n ≤ℤ total k a n
total-below h k a zero e = omega (arith, ints)
total-below h k a (suc n) e =
    let first = e a (omega arith) (omega arith) in
    let rest = total-below h k (a + 1) n (λ c low high. e c (omega arith) (omega arith)) in
    omega (arith, ints)

-- one number apart, where what is made of each other one is no greater
pub total-but : (h k : ℕ → ℤ) (b a n : ℕ) → a ≤ b → b < a + n → ((c : ℕ) → a ≤ c → c < a + n → (c ≡ b → ⊥) → h c ≤ℤ k c) → (total h a n -ℤ h b +ℤ k b) ≤ℤ total k a n
total-but h k b a zero low high e = absurd (omega arith)
total-but h k b a (suc n) low high e = ⊎_elim here (λ less. more less (total-but h k b (a + 1) n (omega (arith, less)) (omega arith) (λ c l u ne. e c (omega arith) (omega arith) ne))) (eq-or-lt_of_le low) where
  here : a ≡ b → (total h a (suc n) -ℤ h b +ℤ k b) ≤ℤ total k a (suc n)
  here same =
      let rest = total-below h k (a + 1) n (λ c l u. e c (omega arith) (omega arith) (λ eq. absurd (omega (arith, eq, same)))) in
      let hs : h a ≡ h b = ap h same in
      let ks : k a ≡ k b = ap k same in
      omega (arith, ints, hs, ks, rest)

  more : a < b → (total h (a + 1) n -ℤ h b +ℤ k b) ≤ℤ total k (a + 1) n → (total h a (suc n) -ℤ h b +ℤ k b) ≤ℤ total k a (suc n)
  more less rest =
      let first = e a (omega arith) (omega arith) (λ eq. absurd (omega (arith, eq, less))) in
      omega (arith, ints, rest, first)

pub total-zero : (h : ℕ → ℤ) (a n : ℕ) → ((c : ℕ) → h c ≡ pos 0) → total h a n ≡ pos 0
total-zero h a zero e = refl
total-zero h a (suc n) e =
    let first = e a in
    let rest = total-zero h (a + 1) n e in
    omega (arith, ints)

-- a product of lists as such a sum
pub dot-total : (xs ys : List ℤ) (n : ℕ) → length xs ≡ n → length ys ≡ n → dot xs ys ≡ total (λ c. entry xs c *ℤ entry ys c) 0 n
dot-total [] ys zero e f = refl
dot-total [] ys (suc n) e f = absurd (omega arith)
dot-total (x ∷ xs) [] n e f = absurd (omega arith)
dot-total (x ∷ xs) (y ∷ ys) zero e f = absurd (omega arith)
dot-total (x ∷ xs) (y ∷ ys) (suc n) e f =
    let rest = dot-total xs ys n (omega arith) (omega arith) in
    let shifted = total-shift (λ c. entry (x ∷ xs) c *ℤ entry (y ∷ ys) c) 0 n in
    let same : total (λ c. entry (x ∷ xs) (c + 1) *ℤ entry (y ∷ ys) (c + 1)) 0 n ≡ total (λ c. entry xs c *ℤ entry ys c) 0 n =
    total-same (λ c. entry (x ∷ xs) (c + 1) *ℤ entry (y ∷ ys) (c + 1)) (λ c. entry xs c *ℤ entry ys c) 0 n (λ c low high. let next : c + 1 ≡ suc c = omega arith in ap (λ k. entry (x ∷ xs) k *ℤ entry (y ∷ ys) k) next) in
    omega (arith, ints)

pub dot-made : (f g : ℕ → ℤ) (a n : ℕ) → dot (map f (range_with_len a n)) (map g (range_with_len a n)) ≡ total (λ c. f c *ℤ g c) a n
dot-made f g a zero = refl
dot-made f g a (suc n) = ap (λ z. f a *ℤ g a +ℤ z) (dot-made f g (a + 1) n)

-- the sum over a list of numbers
abbrev pub sum_over : (ℕ → ℤ) → List ℕ → ℤ
sum_over h [] = pos 0
sum_over h (c ∷ cs) = h c +ℤ sum_over h cs

pub sum_over-more : (h : ℕ → ℤ) (cs : List ℕ) (i : ℕ) → i < length cs → sum_over h (drop i cs) ≡ h (get_or cs i 0) +ℤ sum_over h (drop (i + 1) cs)
sum_over-more h cs i k = ap (sum_over h) (drop_more cs i 0 k)

kept-step : (h : ℕ → ℤ) (a : ℕ) (rest : List ℕ) (b : Bool) → (b ≡ false → h a ≡ pos 0) → sum_over h (cond b (a ∷ rest) rest) ≡ h a +ℤ sum_over h rest
kept-step h a rest true e = refl
kept-step h a rest false e = let none = e refl in omega (arith, ints)

-- numbers of which nothing is made may be left out
pub total-kept : (h : ℕ → ℤ) (p : ℕ → Bool) → ((c : ℕ) → p c ≡ false → h c ≡ pos 0) → (a n : ℕ) → sum_over h (filter p (range_with_len a n)) ≡ total h a n
total-kept h p e a zero = refl
total-kept h p e a (suc n) = kept-step h a (filter p (range_with_len (a + 1) n)) (p a) (e a) ∙ ap (λ z. h a +ℤ z) (total-kept h p e (a + 1) n)
