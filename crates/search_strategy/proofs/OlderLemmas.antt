-- The best of the lemmas so far, and one more.
use Rattle.std.proofs.Common.{◌≡◌, ℕ, ◌+◌, ◌<◌, ◌≤◌, ◌⊎◌, inl, inr, List, Bool, true, false, refl, sym, subst, arith}
use Rattle.std.specs.Prelude.{nat_lt, Option, Some, None, if◌then◌else◌}
use Rattle.std.specs.Bool.{IsTrue}
use Rattle.std.proofs.lemmas.Bool.Decides.{nat_tests}
use Rattle.lemma_frames.specs.Frames.{level_of}
use Rattle.lemma_frames.specs.declared.framed.Framed.{Framed}
use Rattle.search_strategy.specs.Older.{IsBest, IsNoWorse, better_of}

lower : (m n : ℕ) → nat_lt m n ≡ true → m < n
lower m n h = grind (arith, nat_tests, h)

no_lower : (m n : ℕ) → nat_lt m n ≡ false → n ≤ m
no_lower m n h = grind (arith, nat_tests, h)

-- the last number below k + 1 is k
last : (n k : ℕ) → n < k + 1 → (n < k) ⊎ (n ≡ k)
last n k h = by (nat_lt n k) refl where
  by : (b : Bool) → nat_lt n k ≡ b → (n < k) ⊎ (n ≡ k)
  by true is = inl (lower n k is)
  by false is = inr (omega (arith, h, no_lower n k is))

up : (lemmas : List Framed) (n k : ℕ) → level_of lemmas n < level_of lemmas k ⊎ level_of lemmas n ≡ level_of lemmas k → n ≤ k → IsNoWorse lemmas k n
up lemmas n k (inl h) below = inl h
up lemmas n k (inr h) below = inr (h, below)

over : (a b c : ℕ) → a < b → b ≤ c → (a < c) ⊎ (a ≡ c)
over a b c h more = inl (omega (arith, h, more))

even : (a b c : ℕ) → a ≡ b → b ≤ c → (a < c) ⊎ (a ≡ c)
even a b c h more = by (nat_lt a c) refl where
  by : (t : Bool) → nat_lt a c ≡ t → (a < c) ⊎ (a ≡ c)
  by true is = inl (lower a c is)
  by false is = inr (omega (arith, h, more, no_lower a c is))

-- what isn't better than the best so far isn't better than a later one that is no lower
pub past : (lemmas : List Framed) (n best k : ℕ) → IsNoWorse lemmas best n → level_of lemmas best ≤ level_of lemmas k → n ≤ k → IsNoWorse lemmas k n
past lemmas n best k (inl h) more below = up lemmas n k (over (level_of lemmas n) (level_of lemmas best) (level_of lemmas k) h more) below
past lemmas n best k (inr h) more below = up lemmas n k (even (level_of lemmas n) (level_of lemmas best) (level_of lemmas k) h.0 more) below

keep : (lemmas : List Framed) (fits : ℕ → Type 0) (k best : ℕ) → IsBest lemmas fits k (Some best) → level_of lemmas k < level_of lemmas best → IsBest lemmas fits (k + 1) (Some best)
keep lemmas fits k best h low = (omega (arith, h.0), h.1, λ n there fit. by n fit (last n k there)) where
  by : (n : ℕ) → fits n → (n < k) ⊎ (n ≡ k) → IsNoWorse lemmas best n
  by n fit (inl within) = h.2 n within fit
  by n fit (inr is) = inl (subst (λ (m : ℕ). level_of lemmas m < level_of lemmas best) (sym is) low)

change : (lemmas : List Framed) (fits : ℕ → Type 0) (k best : ℕ) → IsBest lemmas fits k (Some best) → fits k → level_of lemmas best ≤ level_of lemmas k → IsBest lemmas fits (k + 1) (Some k)
change lemmas fits k best h fit more = (omega arith, fit, λ n there fit. by n fit (last n k there)) where
  by : (n : ℕ) → fits n → (n < k) ⊎ (n ≡ k) → IsNoWorse lemmas k n
  by n fit (inl within) = past lemmas n best k (h.2 n within fit) more (omega (arith, within))
  by n fit (inr is) = subst (λ (m : ℕ). IsNoWorse lemmas k m) (sym is) (inr (refl, omega arith))

first : (lemmas : List Framed) (fits : ℕ → Type 0) (k : ℕ) → IsBest lemmas fits k None → fits k → IsBest lemmas fits (k + 1) (Some k)
first lemmas fits k h fit = (omega arith, fit, λ n there fit. by n fit (last n k there)) where
  by : (n : ℕ) → fits n → (n < k) ⊎ (n ≡ k) → IsNoWorse lemmas k n
  by n fit (inl within) = absurd (h n within fit)
  by n fit (inr is) = subst (λ (m : ℕ). IsNoWorse lemmas k m) (sym is) (inr (refl, omega arith))

-- one more that fits
pub best-more : (lemmas : List Framed) (fits : ℕ → Type 0) (k : ℕ) (best : Option ℕ) → IsBest lemmas fits k best → fits k → IsBest lemmas fits (k + 1) (Some (better_of lemmas best k))
best-more lemmas fits k None h fit = first lemmas fits k h fit
best-more lemmas fits k (Some best) h fit = by (nat_lt (level_of lemmas k) (level_of lemmas best)) refl where
  by : (b : Bool) → nat_lt (level_of lemmas k) (level_of lemmas best) ≡ b → IsBest lemmas fits (k + 1) (Some (if b then best else k))
  by true is = keep lemmas fits k best h (lower (level_of lemmas k) (level_of lemmas best) is)
  by false is = change lemmas fits k best h fit (no_lower (level_of lemmas k) (level_of lemmas best) is)

-- one more that doesn't
pub best-same : (lemmas : List Framed) (fits : ℕ → Type 0) (k : ℕ) (best : Option ℕ) → IsBest lemmas fits k best → (fits k → ⊥) → IsBest lemmas fits (k + 1) best
best-same lemmas fits k None h unfit = λ n there fit. by n fit (last n k there) where
  by : (n : ℕ) → fits n → (n < k) ⊎ (n ≡ k) → ⊥
  by n fit (inl within) = h n within fit
  by n fit (inr is) = unfit (subst fits is fit)
best-same lemmas fits k (Some best) h unfit = (omega (arith, h.0), h.1, λ n there fit. by n fit (last n k there)) where
  by : (n : ℕ) → fits n → (n < k) ⊎ (n ≡ k) → IsNoWorse lemmas best n
  by n fit (inl within) = h.2 n within fit
  by n fit (inr is) = absurd (unfit (subst fits is fit))

pub untrue : (b : Bool) → b ≡ false → IsTrue b → ⊥
untrue true is h = absurd (cc)
untrue false is h = absurd (cc)
