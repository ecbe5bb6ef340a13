-- The numbers below another, and what tests keep of them.
use Rattle.std.proofs.Common.{◌≡◌, ℕ, suc, zero, ◌+◌, ◌<◌, ◌≤◌, List, [], ◌∷◌, ◌++◌, length, get_or, take, filter, Bool, true, false, cond, ◌&&◌, ◌||◌, refl, ap, sym, ◌∙◌, subst, arith}
use Rattle.std.specs.List.{range_with_len, list_any}
use Rattle.std.proofs.lemmas.List.{append-nil, map-id, take_all}
use Rattle.std.proofs.lemmas.List.Elements.{filter_more}
use Rattle.std.proofs.lemmas.List.FromFn.{map-range_with_len_more, get_or-range_with_len, length-range_with_len}

pub range-suc : (n : ℕ) → range_with_len 0 (suc n) ≡ range_with_len 0 n ++ n ∷ []
range-suc n =
    let more : range_with_len 0 (n + 1) ≡ range_with_len 0 n ++ n ∷ [] =
    sym (map-id (range_with_len 0 (n + 1))) ∙ map-range_with_len_more (λ (i : ℕ). i) 0 n n (omega arith) ∙ ap (λ is. is ++ n ∷ []) (map-id (range_with_len 0 n)) in
    let one : n + 1 ≡ suc n = omega arith in
    subst (λ m. range_with_len 0 m ≡ range_with_len 0 n ++ n ∷ []) one more

pub filter-filter : (p q : ℕ → Bool) (xs : List ℕ) → filter q (filter p xs) ≡ filter (λ i. p i && q i) xs
filter-filter p q [] = refl
filter-filter p q (x ∷ xs) = by (p x) (filter-filter p q xs) where
  by : (b : Bool) → filter q (filter p xs) ≡ filter (λ i. p i && q i) xs
      → filter q (cond b (x ∷ filter p xs) (filter p xs)) ≡ cond (b && q x) (x ∷ filter (λ i. p i && q i) xs) (filter (λ i. p i && q i) xs)
  by true more = ap (λ ys. cond (q x) (x ∷ ys) ys) more
  by false more = more

pub filter-same : (p q : ℕ → Bool) (xs : List ℕ) → ((i : ℕ) → p i ≡ q i) → filter p xs ≡ filter q xs
filter-same p q [] same = refl
filter-same p q (x ∷ xs) same = ap (λ b. cond b (x ∷ filter p xs) (filter p xs)) (same x) ∙ ap (λ ys. cond (q x) (x ∷ ys) ys) (filter-same p q xs same)

pub any-same : (p q : ℕ → Bool) (xs : List ℕ) → ((i : ℕ) → p i ≡ q i) → list_any p xs ≡ list_any q xs
any-same p q [] same = refl
any-same p q (x ∷ xs) same = ap (λ b. b || list_any p xs) (same x) ∙ ap (λ b. q x || b) (any-same p q xs same)

pub any-filter : (p t : ℕ → Bool) (xs : List ℕ) → list_any p (filter t xs) ≡ list_any (λ i. t i && p i) xs
any-filter p t [] = refl
any-filter p t (x ∷ xs) = by (t x) (any-filter p t xs) where
  by : (b : Bool) → list_any p (filter t xs) ≡ list_any (λ i. t i && p i) xs
      → list_any p (cond b (x ∷ filter t xs) (filter t xs)) ≡ (b && p x || list_any (λ i. t i && p i) xs)
  by true more = ap (λ b. p x || b) more
  by false more = more

-- tests that agree on the numbers from a on keep the same, and find the same
pub filter-range : (p q : ℕ → Bool) (a n : ℕ) → ((i : ℕ) → i < a + n → p i ≡ q i) → filter p (range_with_len a n) ≡ filter q (range_with_len a n)
filter-range p q a zero same = refl
filter-range p q a (suc n) same =
    let rest : filter p (range_with_len (a + 1) n) ≡ filter q (range_with_len (a + 1) n) = filter-range p q (a + 1) n (λ i h. same i (omega arith)) in
    let here : p a ≡ q a = same a (omega arith) in
    ap (λ b. cond b (a ∷ filter p (range_with_len (a + 1) n)) (filter p (range_with_len (a + 1) n))) here ∙ ap (λ ys. cond (q a) (a ∷ ys) ys) rest

pub any-range : (p q : ℕ → Bool) (a n : ℕ) → ((i : ℕ) → i < a + n → p i ≡ q i) → list_any p (range_with_len a n) ≡ list_any q (range_with_len a n)
any-range p q a zero same = refl
any-range p q a (suc n) same =
    let rest : list_any p (range_with_len (a + 1) n) ≡ list_any q (range_with_len (a + 1) n) = any-range p q (a + 1) n (λ i h. same i (omega arith)) in
    let here : p a ≡ q a = same a (omega arith) in
    ap (λ b. b || list_any p (range_with_len (a + 1) n)) here ∙ ap (λ b. q a || b) rest

-- the same of what a test keeps of the numbers below n
pub any-below : (p q t : ℕ → Bool) (n : ℕ) → ((i : ℕ) → i < n → p i ≡ q i) → list_any p (filter t (range_with_len 0 n)) ≡ list_any q (filter t (range_with_len 0 n))
any-below p q t n same =
    any-filter p t (range_with_len 0 n)
    ∙ any-range (λ i. t i && p i) (λ i. t i && q i) 0 n (λ i h. ap (λ b. t i && b) (same i (omega arith)))
    ∙ sym (any-filter q t (range_with_len 0 n))

pub any-never : (xs : List ℕ) → list_any (λ i. false) xs ≡ false
any-never [] = refl
any-never (x ∷ xs) = any-never xs

-- what a test keeps passes it, and has every property of the list
pub kept-filter : (p : ℕ → Bool) (P : ℕ → Type 0) (xs : List ℕ) → ((k : ℕ) → k < length xs → P (get_or xs k 0)) → (k : ℕ) → k < length (filter p xs) → P (get_or (filter p xs) k 0) × (p (get_or (filter p xs) k 0) ≡ true)
kept-filter p P [] all k h = absurd (omega arith)
kept-filter p P (x ∷ xs) all k h = by (p x) refl (kept-filter p P xs (λ j below. all (suc j) (omega arith))) k h where
  by : (b : Bool) → p x ≡ b → ((j : ℕ) → j < length (filter p xs) → P (get_or (filter p xs) j 0) × (p (get_or (filter p xs) j 0) ≡ true))
      → (k : ℕ) → k < length (cond b (x ∷ filter p xs) (filter p xs)) → P (get_or (cond b (x ∷ filter p xs) (filter p xs)) k 0) × (p (get_or (cond b (x ∷ filter p xs) (filter p xs)) k 0) ≡ true)
  by true is more zero h = (all 0 (omega arith), is)
  by true is more (suc k) h = more k (omega arith)
  by false is more k h = more k h

-- what a test keeps of the numbers below n is below n, and passes
pub kept-below : (p : ℕ → Bool) (n k : ℕ) → k < length (filter p (range_with_len 0 n)) → (get_or (filter p (range_with_len 0 n)) k 0 < n) × (p (get_or (filter p (range_with_len 0 n)) k 0) ≡ true)
kept-below p n = kept-filter p (λ i. i < n) (range_with_len 0 n) (λ k h.
    let long = length-range_with_len 0 n in
    let at : get_or (range_with_len 0 n) k 0 ≡ 0 + k = get_or-range_with_len 0 n k 0 (omega arith) in
    omega (arith, at, long))

-- one more number in a loop that keeps those that pass
pub kept-more : (p : ℕ → Bool) (xs : List ℕ) (i : ℕ) (before new : List ℕ) → i < length xs → p (get_or xs i 0) ≡ true → before ≡ filter p (take i xs) → new ≡ before ++ get_or xs i 0 ∷ [] → new ≡ filter p (take (i + 1) xs)
kept-more p xs i before new within passes was pushed =
    let more : filter p (take (i + 1) xs) ≡ filter p (take i xs) ++ get_or xs i 0 ∷ [] = filter_more p xs i 0 within ∙ ap (λ b. filter p (take i xs) ++ cond b (get_or xs i 0 ∷ []) []) passes in
    pushed ∙ ap (λ (ys : List ℕ). ys ++ get_or xs i 0 ∷ []) was ∙ sym more

pub kept-none : (p : ℕ → Bool) (xs : List ℕ) (i : ℕ) (before : List ℕ) → i < length xs → p (get_or xs i 0) ≡ false → before ≡ filter p (take i xs) → before ≡ filter p (take (i + 1) xs)
kept-none p xs i before within fails was =
    let same : filter p (take (i + 1) xs) ≡ filter p (take i xs) = filter_more p xs i 0 within ∙ ap (λ b. filter p (take i xs) ++ cond b (get_or xs i 0 ∷ []) []) fails ∙ append-nil (filter p (take i xs)) in
    was ∙ sym same

pub kept-all : (p : ℕ → Bool) (xs : List ℕ) (i : ℕ) (before : List ℕ) → length xs ≤ i → before ≡ filter p (take i xs) → before ≡ filter p xs
kept-all p xs i before ended was = was ∙ ap (filter p) (take_all i xs ended)
