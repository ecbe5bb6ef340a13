-- Two ordered lists, of which one has exactly the members of the other from a level on.
use Rattle.std.proofs.Common.{◌≡◌, ℕ, zero, suc, ◌≤◌, List, [], ◌∷◌, length, take, refl, ap, sym, subst, ◌∙◌, arith, inl, inr, length-take}
use Rattle.std.specs.Prelude.{◌⊎◌, ◌↔◌, ℤ}
use Rattle.std.specs.List.{AllPairs, Contains}
use Rattle.std.proofs.lemmas.List.{take_all}
use Rattle.lemma_frames.specs.declared.framed.Framed.{Framed}
use Rattle.lemma_frames.specs.Frames.{level_of, FrameHolds, IsUpper}
use Rattle.lemma_frames.proofs.RowLemmas.{Before, strict}

cons_cases : (x : ℕ) (xs : List ℕ) (n : ℕ) → Contains (x ∷ xs) n → (x ≡ n) ⊎ Contains xs n
cons_cases x xs n (zero, l, is) = inl is
cons_cases x xs n (suc k, l, is) = inr (k, omega arith, is)

cons_has : (x : ℕ) (xs : List ℕ) (n : ℕ) → Contains xs n → Contains (x ∷ xs) n
cons_has x xs n (k, l, is) = (suc k, omega arith, is)

later : (R : ℕ → ℕ → Type 0) (x : ℕ) (xs : List ℕ) (n : ℕ) → AllPairs R (x ∷ xs) → Contains xs n → R x n
later R x xs n pairs (k, l, is) = subst (λ y. R x y) is (pairs 0 (suc k) n (omega arith) (omega arith))

tail : (R : ℕ → ℕ → Type 0) (x : ℕ) (xs : List ℕ) → AllPairs R (x ∷ xs) → AllPairs R xs
tail R x xs pairs a b d less in' = pairs (suc a) (suc b) d (omega arith) (omega arith)

asymmetric : (L : ℕ → ℕ) (x y : ℕ) → Before L x y → Before L y x → ⊥
asymmetric L x y p q =
    let u = p.0 in let v = q.0 in
    let same : L x ≡ L y = omega arith in
    let l = p.1 same in let m = q.1 (sym same) in omega arith

prefix : (L : ℕ → ℕ) (P : ℕ → Type 0) → ((x y : ℕ) → Before L x y → P y → P x) → (low high : List ℕ) → AllPairs (Before L) low → AllPairs (Before L) high
    → ((n : ℕ) → Contains high n ↔ (Contains low n × P n)) → high ≡ take (length high) low
prefix L P up low [] lows highs same = refl
prefix L P up [] (y ∷ ys) lows highs same = none ((same y).0 (0, omega arith, refl)).0 where
  none : Contains [] y → y ∷ ys ≡ take (length (y ∷ ys)) []
  none (k, l, is) = absurd (omega arith)
prefix L P up (x ∷ xs) (y ∷ ys) lows highs same = joined first (prefix L P up xs ys (tail (Before L) x xs lows) (tail (Before L) y ys highs) rest) where
  mine : Contains (x ∷ xs) y × P y
  mine = (same y).0 (0, omega arith, refl)

  meet : Before L x y → (y ≡ x) ⊎ Contains ys x → x ≡ y
  meet b (inl e) = sym e
  meet b (inr has) = absurd (asymmetric L x y b (later (Before L) y ys x highs has))

  by : (x ≡ y) ⊎ Contains xs y → x ≡ y
  by (inl e) = e
  by (inr has) =
      let b = later (Before L) x xs y lows has in
      meet b (cons_cases y ys x ((same x).1 ((0, omega arith, refl), up x y b mine.1)))

  first : x ≡ y
  first = by (cons_cases x xs y mine.0)

  joined : x ≡ y → ys ≡ take (length ys) xs → y ∷ ys ≡ x ∷ take (length ys) xs
  joined e more = ap (λ z. z ∷ ys) (sym e) ∙ ap (λ zs. x ∷ zs) more

  high_low : (n : ℕ) → Contains ys n → (x ≡ n) ⊎ Contains xs n → Contains xs n
  high_low n has (inl e) = absurd (strict L y (later (Before L) y ys y highs (subst (λ m. Contains ys m) (sym e ∙ first) has)))
  high_low n has (inr there) = there

  low_high : (n : ℕ) → Contains xs n → (y ≡ n) ⊎ Contains ys n → Contains ys n
  low_high n has (inl e) = absurd (strict L x (later (Before L) x xs x lows (subst (λ m. Contains xs m) (sym e ∙ sym first) has)))
  low_high n has (inr there) = there

  rest : (n : ℕ) → Contains ys n ↔ (Contains xs n × P n)
  rest n = (
    λ has. (let both = (same n).0 (cons_has y ys n has) in (high_low n has (cons_cases x xs n both.0), both.1)),
    λ both. low_high n both.0 (cons_cases y ys n ((same n).1 (cons_has x xs n both.0, both.1))),
  )

pub upper_prefix : (lemmas : List Framed) (pred j k : ℕ) (low high : List ℕ) → j ≤ k → IsUpper lemmas pred j low → IsUpper lemmas pred k high → high ≡ take (length high) low
upper_prefix lemmas pred j k low high le lows highs = prefix (level_of lemmas) (λ n. k ≤ level_of lemmas n) up low high lows.order highs.order same where
  up : (x y : ℕ) → Before (level_of lemmas) x y → k ≤ level_of lemmas y → k ≤ level_of lemmas x
  up x y b more = let u = b.0 in omega arith

  same : (n : ℕ) → Contains high n ↔ (Contains low n × (k ≤ level_of lemmas n))
  same n = (
    λ has. (let in' = (highs.exact n).0 has in ((lows.exact n).1 (in'.0, in'.1, (let m = in'.2 in omega arith)), in'.2)),
    λ both. (let in' = (lows.exact n).0 both.0 in (highs.exact n).1 (in'.0, in'.1, both.1)),
  )

pub upper_one : (lemmas : List Framed) (pred k : ℕ) (one other : List ℕ) → IsUpper lemmas pred k one → IsUpper lemmas pred k other → one ≡ other
upper_one lemmas pred k one other a b =
    let p : one ≡ take (length one) other = upper_prefix lemmas pred k k other one (omega arith) b a in
    let q : other ≡ take (length other) one = upper_prefix lemmas pred k k one other (omega arith) a b in
    let r : length other ≡ length (take (length other) one) = ap (λ xs. length xs) q in
    let s = length-take (length other) one in
    p ∙ take_all (length one) other (omega arith)

pub frame_falls : (lemmas : List Framed) (pred j k : ℕ) (tuple : List ℤ) → j ≤ k → FrameHolds lemmas pred j tuple → FrameHolds lemmas pred k tuple
frame_falls lemmas pred j k tuple le holds = ((let some = holds.0 in omega arith), λ n in'. holds.1 n (in'.0, in'.1, (let m = in'.2 in omega arith)))
