-- Terms one by one: coefficients, and multiples of terms whose variables rise.
use Rattle.std.proofs.Common.{◌≡◌, ◌<◌, ◌≤◌, ◌+◌, ◌*◌, ◌^◌, ℕ, suc, zero, List, [], ◌∷◌, ◌++◌, refl, ap, sym, ◌∙◌, arith, true, false, Bool, ◌==◌, cond, length, drop, get_or, append_assoc, not, ◌⊎◌, inl, inr, subst, to_z, of_z, FitsSigned}
use Rattle.std.specs.Prelude.{ℤ, pos, ◌+ℤ◌, ◌*ℤ◌, nat_abs, nat_lt}
use Rattle.std.proofs.Math.Nat.{mul-le-mul, mul-le-mul_right}
use Rattle.std.proofs.lemmas.Int.{ints, to_z-of_z, unsigned_abs-mul}
use Rattle.std.specs.List.{filter}
use Rattle.std.proofs.lemmas.Bool.Decides.{nat_tests}
use Rattle.std.proofs.lemmas.List.{append-nil, drop_more, drop_all}
use Rattle.lin_atoms.specs.Linear.{Linear, are_ordered, are_short, is_linear, is_short}
use Rattle.lin_atoms.specs.Algebra.{collected, scaled_terms, term_on}
use Rattle.std.specs.Int.{w64, w128}
use Rattle.lin_atoms.proofs.Public.{both_true, ordered, ordered-at, ordered-cons, ordered-drop, ordered-weaker, scaled-ordered, term_on-whole, wide_where}
use Rattle.lin_atoms.proofs.MergeLemmas.{both-first, ours-ended, ours-first, theirs-ended, theirs-first}
use Rattle.model_project.specs.Substitution.{coefficient_in}
use Rattle.model_project.proofs.TidyLemmas.{first_has, gone_below, other_has}

pub legal_order : (lin : Linear) → is_linear lin ≡ true → are_ordered 0 lin.terms ≡ true
legal_order lin h = (both_true (are_ordered 0 lin.terms) _ h).0

-- the term at the index has the variable
pub found-at : (ts : List (ℕ × ℤ)) (i : ℕ) (d : ℕ × ℤ) (v : ℕ) → i < length ts → are_ordered 0 ts ≡ true → (get_or ts i d).0 ≡ v → coefficient_in v (drop i ts) ≡ (get_or ts i d).1
found-at ts i d v h is same =
    let t = get_or ts i d in
    let rest = drop (i + 1) ts in
    let order : are_ordered 0 (t ∷ rest) ≡ true = ap (are_ordered 0) (sym (drop_more ts i d h)) ∙ ordered-drop 0 i ts is in
    ap (coefficient_in v) (drop_more ts i d h) ∙ ap (λ w. coefficient_in w (t ∷ rest)) (sym same) ∙ first_has 0 t rest order

-- the terms from the index on are behind the variable
pub gone-at : (ts : List (ℕ × ℤ)) (i : ℕ) (d : ℕ × ℤ) (v : ℕ) → i < length ts → are_ordered 0 ts ≡ true → v < (get_or ts i d).0 → coefficient_in v (drop i ts) ≡ pos 0
gone-at ts i d v h is less =
    let t = get_or ts i d in
    let parts = ordered-at ts i d h is in
    ap (coefficient_in v) (drop_more ts i d h) ∙ other_has t (drop (i + 1) ts) v (λ same. absurd (omega (arith, same, less))) ∙ gone_below (t.0 + 1) (drop (i + 1) ts) v parts.rest (omega (arith, less))

-- a term before the variable does not matter
pub next-at : (ts : List (ℕ × ℤ)) (i : ℕ) (d : ℕ × ℤ) (v : ℕ) → i < length ts → (get_or ts i d).0 < v → coefficient_in v (drop i ts) ≡ coefficient_in v (drop (i + 1) ts)
next-at ts i d v h less = ap (coefficient_in v) (drop_more ts i d h) ∙ other_has (get_or ts i d) (drop (i + 1) ts) v (λ same. absurd (omega (arith, same, less)))

pub none-at : (ts : List (ℕ × ℤ)) (i : ℕ) (v : ℕ) → length ts ≤ i → coefficient_in v (drop i ts) ≡ pos 0
none-at ts i v h = ap (coefficient_in v) (drop_all i ts h)

-- a product of numbers that are not 0
product-some : (k a : ℤ) → 0 < nat_abs k → 0 < nat_abs a → 0 < nat_abs (k *ℤ a)
product-some k a h g =
    let size = unsigned_abs-mul k a in
    let le : 1 * nat_abs a ≤ nat_abs k * nat_abs a = mul-le-mul_right (nat_abs a) h in
    omega (arith, size, le)

-- products of a number below 2^63 and one of 64 bits are below 2^126, and have room, as their sums have
long-abs : (a : ℤ) → FitsSigned w64 a → nat_abs a ≤ 2 ^ 63
long-abs a f = omega (arith, ints, f.sfits)

pub short-product : (k a : ℤ) → nat_abs k < 2 ^ 63 → FitsSigned w64 a → nat_abs (k *ℤ a) < 2 ^ 126
short-product k a h f =
    let p : nat_abs k ≤ 9223372036854775807 = omega (arith, h) in
    omega (arith, unsigned_abs-mul k a, mul-le-mul p (long-abs a f))

pub product-fits : (a : ℤ) → nat_abs a < 2 ^ 126 → FitsSigned w128 a
product-fits a h = omega (arith, ints)

sum-fits : (a b : ℤ) → nat_abs a < 2 ^ 126 → nat_abs b < 2 ^ 126 → FitsSigned w128 (a +ℤ b)
sum-fits a b h g = omega (arith, ints)

long-fits : (a : ℤ) → FitsSigned w64 a → FitsSigned w128 a
long-fits a f = omega (arith, ints, f.sfits)

below-long : (a : ℤ) → FitsSigned w64 a → nat_abs a < 2 ^ 64
below-long a f = omega (arith, ints, f.sfits)

-- numbers and products that were handed on with other widths
pub widened : (a r : ℤ) → FitsSigned w64 a → r ≡ to_z w64 (of_z w64 a) → to_z w128 (of_z w128 r) ≡ a
widened a r f e =
    let is : r ≡ a = e ∙ to_z-of_z _ _ f in
    to_z-of_z _ _ (subst (FitsSigned w128) (sym is) (long-fits a f)) ∙ is

pub widened-long : (a r : ℤ) → FitsSigned w64 a → r ≡ to_z w64 (of_z w64 a) → nat_abs (to_z w128 (of_z w128 r)) < 2 ^ 64
widened-long a r f e = subst (λ (z : ℤ). nat_abs z < 2 ^ 64) (sym (widened a r f e)) (below-long a f)

pub exact-product : (k a x y : ℤ) → nat_abs k < 2 ^ 63 → FitsSigned w64 a → x ≡ k → y ≡ a → to_z w128 (of_z w128 (x *ℤ y)) ≡ k *ℤ a
exact-product k a x y h f e g =
    ap (λ (z : ℤ). to_z w128 (of_z w128 (z *ℤ y))) e ∙ ap (λ (z : ℤ). to_z w128 (of_z w128 (k *ℤ z))) g ∙ to_z-of_z _ _ (product-fits (k *ℤ a) (short-product k a h f))

pub read-product : (k a r : ℤ) → FitsSigned w64 k → FitsSigned w64 a → r ≡ to_z w64 (of_z w64 k) *ℤ to_z w64 (of_z w64 a) → r ≡ k *ℤ a
read-product k a r f g e = e ∙ ap (λ (z : ℤ). z *ℤ to_z w64 (of_z w64 a)) (to_z-of_z _ _ f) ∙ ap (λ (z : ℤ). k *ℤ z) (to_z-of_z _ _ g)

pub back-fits : (a b : ℤ) → nat_abs a < 2 ^ 126 → nat_abs b < 2 ^ 126 → FitsSigned w128 (to_z w128 (of_z w128 a) +ℤ to_z w128 (of_z w128 b))
back-fits a b h g =
    subst (λ (z : ℤ). FitsSigned w128 (z +ℤ to_z w128 (of_z w128 b))) (sym (to_z-of_z _ _ (product-fits a h)))
    (subst (λ (z : ℤ). FitsSigned w128 (a +ℤ z)) (sym (to_z-of_z _ _ (product-fits b g))) (sum-fits a b h g))

pub exact-sum : (a b : ℤ) → nat_abs a < 2 ^ 126 → nat_abs b < 2 ^ 126 → to_z w128 (of_z w128 (to_z w128 (of_z w128 a) +ℤ to_z w128 (of_z w128 b))) ≡ a +ℤ b
exact-sum a b h g =
    to_z-of_z _ _ (back-fits a b h g) ∙ ap (λ (z : ℤ). z +ℤ to_z w128 (of_z w128 b)) (to_z-of_z _ _ (product-fits a h)) ∙ ap (λ (z : ℤ). a +ℤ z) (to_z-of_z _ _ (product-fits b g))

zero-plus : (z : ℤ) → pos 0 +ℤ z ≡ z
zero-plus z = omega (arith, ints)

pub total-is : (n p q x y : ℤ) → n ≡ pos 0 → p ≡ n +ℤ x → q ≡ p +ℤ y → q ≡ x +ℤ y
total-is n p q x y e f g = g ∙ ap (λ (z : ℤ). z +ℤ y) (f ∙ ap (λ (z : ℤ). z +ℤ x) e ∙ zero-plus x)

-- each term of a multiple stands at its index
pub scaled-length : (k : ℤ) (from : ℕ) (ts : List (ℕ × ℤ)) → 0 < nat_abs k → are_ordered from ts ≡ true → length (scaled_terms k ts) ≡ length ts
scaled-length k from [] some is = refl
scaled-length k from (t ∷ ts) some is =
    let parts = ordered from t ts is in
    ap length (term_on-whole t.0 (k *ℤ t.1) (scaled_terms k ts) (product-some k t.1 some parts.whole)) ∙ ap suc (scaled-length k (t.0 + 1) ts some parts.rest)

pub scaled-at : (k : ℤ) (from : ℕ) (ts : List (ℕ × ℤ)) (i : ℕ) (d : ℕ × ℤ) → 0 < nat_abs k → are_ordered from ts ≡ true → i < length ts → get_or (scaled_terms k ts) i d ≡ ((get_or ts i d).0, k *ℤ (get_or ts i d).1)
scaled-at k from [] i d some is h = absurd (omega arith)
scaled-at k from (t ∷ ts) zero d some is h = let parts = ordered from t ts is in ap (λ us. get_or us 0 d) (term_on-whole t.0 (k *ℤ t.1) (scaled_terms k ts) (product-some k t.1 some parts.whole))
scaled-at k from (t ∷ ts) (suc i) d some is h =
    let parts = ordered from t ts is in
    ap (λ us. get_or us (suc i) d) (term_on-whole t.0 (k *ℤ t.1) (scaled_terms k ts) (product-some k t.1 some parts.whole)) ∙ scaled-at k (t.0 + 1) ts i d some parts.rest (omega arith)

-- the first of what is left of two multiples
pub ours-next : (k m : ℤ) (a b : List (ℕ × ℤ)) (i j : ℕ) (d : ℕ × ℤ) → 0 < nat_abs k → 0 < nat_abs m → i < length a → j < length b → are_ordered 0 a ≡ true → are_ordered 0 b ≡ true → (get_or a i d).0 < (get_or b j d).0
    → collected (drop i (scaled_terms k a) ++ drop j (scaled_terms m b)) ≡ term_on (get_or a i d).0 (k *ℤ (get_or a i d).1) (collected (drop (i + 1) (scaled_terms k a) ++ drop j (scaled_terms m b)))
ours-next k m a b i j d ks ms h g is os less =
    let A = scaled_terms k a in
    let B = scaled_terms m b in
    let x = scaled-at k 0 a i d ks is h in
    let y = scaled-at m 0 b j d ms os g in
    let order : (get_or A i d).0 < (get_or B j d).0 = omega (arith, ap (λ (t : ℕ × ℤ). t.0) x, ap (λ (t : ℕ × ℤ). t.0) y, less) in
    ours-first A B i j d (omega (arith, scaled-length k 0 a ks is, h)) (omega (arith, scaled-length m 0 b ms os, g)) (scaled-ordered k 0 a is) (scaled-ordered m 0 b os) order
    ∙ ap (λ (t : ℕ × ℤ). term_on t.0 t.1 (collected (drop (i + 1) A ++ drop j B))) x

pub theirs-next : (k m : ℤ) (a b : List (ℕ × ℤ)) (i j : ℕ) (d : ℕ × ℤ) → 0 < nat_abs k → 0 < nat_abs m → i < length a → j < length b → are_ordered 0 a ≡ true → are_ordered 0 b ≡ true → (get_or b j d).0 < (get_or a i d).0
    → collected (drop i (scaled_terms k a) ++ drop j (scaled_terms m b)) ≡ term_on (get_or b j d).0 (m *ℤ (get_or b j d).1) (collected (drop i (scaled_terms k a) ++ drop (j + 1) (scaled_terms m b)))
theirs-next k m a b i j d ks ms h g is os less =
    let A = scaled_terms k a in
    let B = scaled_terms m b in
    let x = scaled-at k 0 a i d ks is h in
    let y = scaled-at m 0 b j d ms os g in
    let order : (get_or B j d).0 < (get_or A i d).0 = omega (arith, ap (λ (t : ℕ × ℤ). t.0) x, ap (λ (t : ℕ × ℤ). t.0) y, less) in
    theirs-first A B i j d (omega (arith, scaled-length k 0 a ks is, h)) (omega (arith, scaled-length m 0 b ms os, g)) (scaled-ordered k 0 a is) (scaled-ordered m 0 b os) order
    ∙ ap (λ (t : ℕ × ℤ). term_on t.0 t.1 (collected (drop i A ++ drop (j + 1) B))) y

pub both-next : (k m : ℤ) (a b : List (ℕ × ℤ)) (i j : ℕ) (d : ℕ × ℤ) → 0 < nat_abs k → 0 < nat_abs m → i < length a → j < length b → are_ordered 0 a ≡ true → are_ordered 0 b ≡ true → (get_or a i d).0 ≡ (get_or b j d).0
    → collected (drop i (scaled_terms k a) ++ drop j (scaled_terms m b)) ≡ term_on (get_or a i d).0 (k *ℤ (get_or a i d).1 +ℤ m *ℤ (get_or b j d).1) (collected (drop (i + 1) (scaled_terms k a) ++ drop (j + 1) (scaled_terms m b)))
both-next k m a b i j d ks ms h g is os same =
    let A = scaled_terms k a in
    let B = scaled_terms m b in
    let x = scaled-at k 0 a i d ks is h in
    let y = scaled-at m 0 b j d ms os g in
    let rest = collected (drop (i + 1) A ++ drop (j + 1) B) in
    let order : (get_or A i d).0 ≡ (get_or B j d).0 = ap (λ (t : ℕ × ℤ). t.0) x ∙ same ∙ sym (ap (λ (t : ℕ × ℤ). t.0) y) in
    both-first A B i j d (omega (arith, scaled-length k 0 a ks is, h)) (omega (arith, scaled-length m 0 b ms os, g)) (scaled-ordered k 0 a is) (scaled-ordered m 0 b os) order
    ∙ ap (λ (t : ℕ × ℤ). term_on t.0 (t.1 +ℤ (get_or B j d).1) rest) x ∙ ap (λ (t : ℕ × ℤ). term_on (get_or a i d).0 (k *ℤ (get_or a i d).1 +ℤ t.1) rest) y

-- where one multiple has ended, the other is the sum
pub ended-both : (k m : ℤ) (a b : List (ℕ × ℤ)) (i j : ℕ) → 0 < nat_abs k → 0 < nat_abs m → are_ordered 0 a ≡ true → are_ordered 0 b ≡ true → (length a ≤ i) ⊎ (length b ≤ j)
    → collected (drop i (scaled_terms k a) ++ drop j (scaled_terms m b)) ≡ drop i (scaled_terms k a) ++ drop j (scaled_terms m b)
ended-both k m a b i j ks ms is os (inl h) = ours-ended (scaled_terms k a) (scaled_terms m b) i j (omega (arith, scaled-length k 0 a ks is, h)) (scaled-ordered m 0 b os)
ended-both k m a b i j ks ms is os (inr h) = theirs-ended (scaled_terms k a) (scaled_terms m b) i j (omega (arith, scaled-length m 0 b ms os, h)) (scaled-ordered k 0 a is)

-- one more multiple is put down
pub multiple-more : (k : ℤ) (ts made new whole : List (ℕ × ℤ)) (i : ℕ) (d : ℕ × ℤ) → 0 < nat_abs k → are_ordered 0 ts ≡ true → i < length ts → new ≡ made ++ ((get_or ts i d).0, k *ℤ (get_or ts i d).1) ∷ [] → made ++ drop i (scaled_terms k ts) ≡ whole
    → new ++ drop (i + 1) (scaled_terms k ts) ≡ whole
multiple-more k ts made new whole i d some is h e told =
    let A = scaled_terms k ts in
    let inside : i < length A = omega (arith, scaled-length k 0 ts some is, h) in
    ap (λ xs. xs ++ drop (i + 1) A) e ∙ append_assoc made (((get_or ts i d).0, k *ℤ (get_or ts i d).1) ∷ []) (drop (i + 1) A)
    ∙ ap (λ (t : ℕ × ℤ). made ++ t ∷ drop (i + 1) A) (sym (scaled-at k 0 ts i d some is h)) ∙ ap (λ xs. made ++ xs) (sym (drop_more A i d inside)) ∙ told

pub multiple-end : (k : ℤ) (ts made whole : List (ℕ × ℤ)) (i : ℕ) → 0 < nat_abs k → are_ordered 0 ts ≡ true → length ts ≤ i → made ++ drop i (scaled_terms k ts) ≡ whole → made ≡ whole
multiple-end k ts made whole i some is h told = sym (append-nil made) ∙ ap (λ xs. made ++ xs) (sym (drop_all i (scaled_terms k ts) (omega (arith, scaled-length k 0 ts some is, h)))) ∙ told

-- terms but for one variable, term by term
skip_test : (b : Bool) (t : ℕ × ℤ) (ts : List (ℕ × ℤ)) → not b ≡ false → cond (not b) (t ∷ ts) ts ≡ ts
skip_test true t ts h = refl
skip_test false t ts h = absurd (cc)

keep_test : (b : Bool) (t : ℕ × ℤ) (ts : List (ℕ × ℤ)) → b ≡ false → cond (not b) (t ∷ ts) ts ≡ t ∷ ts
keep_test true t ts h = absurd (cc)
keep_test false t ts h = refl

same_number : (m n : ℕ) → m ≡ n → (m == n) ≡ true
same_number m n h = grind (arith, nat_tests)

other_number : (m n : ℕ) → (m ≡ n → ⊥) → (m == n) ≡ false
other_number m n h = grind (arith, nat_tests)

pub without-skip : (ts made whole : List (ℕ × ℤ)) (v i : ℕ) (d : ℕ × ℤ) → i < length ts → (get_or ts i d).0 ≡ v → made ++ filter (λ t. not (t.0 == v)) (drop i ts) ≡ whole → made ++ filter (λ t. not (t.0 == v)) (drop (i + 1) ts) ≡ whole
without-skip ts made whole v i d h same told =
    let rest = filter (λ t. not (t.0 == v)) (drop (i + 1) ts) in
    ap (λ xs. made ++ xs) (sym (ap (filter (λ t. not (t.0 == v))) (drop_more ts i d h) ∙ skip_test ((get_or ts i d).0 == v) (get_or ts i d) rest (ap not (same_number (get_or ts i d).0 v same)))) ∙ told

pub without-more : (ts made new whole : List (ℕ × ℤ)) (v i : ℕ) (d : ℕ × ℤ) → i < length ts → ((get_or ts i d).0 ≡ v → ⊥) → new ≡ made ++ get_or ts i d ∷ [] → made ++ filter (λ t. not (t.0 == v)) (drop i ts) ≡ whole → new ++ filter (λ t. not (t.0 == v)) (drop (i + 1) ts) ≡ whole
without-more ts made new whole v i d h other e told =
    let rest = filter (λ t. not (t.0 == v)) (drop (i + 1) ts) in
    ap (λ xs. xs ++ rest) e ∙ append_assoc made (get_or ts i d ∷ []) rest
    ∙ ap (λ xs. made ++ xs) (sym (ap (filter (λ t. not (t.0 == v))) (drop_more ts i d h) ∙ keep_test ((get_or ts i d).0 == v) (get_or ts i d) rest (other_number (get_or ts i d).0 v other))) ∙ told

pub without-end : (ts made whole : List (ℕ × ℤ)) (v i : ℕ) → length ts ≤ i → made ++ filter (λ t. not (t.0 == v)) (drop i ts) ≡ whole → made ≡ whole
without-end ts made whole v i h told = sym (append-nil made) ∙ ap (λ xs. made ++ xs) (sym (ap (filter (λ t. not (t.0 == v))) (drop_all i ts h))) ∙ told

pub legal_small : (lin : Linear) → is_linear lin ≡ true → are_short lin.terms ≡ true
legal_small lin h = (both_true (are_short lin.terms) _ (both_true (are_ordered 0 lin.terms) _ h).1).0

-- what has no room in 128 bits is wide
not_small : (n : ℕ) → 2 ^ 127 ≤ n → nat_lt n (2 ^ 63) ≡ false
not_small n h = grind (arith, nat_tests)

pub wide-not_small : (z : ℤ) → (FitsSigned w128 z → ⊥) → is_short z ≡ false
wide-not_small z wide = not_small (nat_abs z) (wide_where z wide)

-- leaving terms out keeps their order
ordered_here : (from : ℕ) (t : ℕ × ℤ) (ts : List (ℕ × ℤ)) (b : Bool) → from ≤ t.0 → 0 < nat_abs t.1 → are_ordered (t.0 + 1) ts ≡ true → are_ordered from (cond b (t ∷ ts) ts) ≡ true
ordered_here from t ts true above whole rest = ordered-cons from t ts above whole rest
ordered_here from t ts false above whole rest = ordered-weaker from (t.0 + 1) ts (omega (arith, above)) rest

pub filter_ordered : (test : ℕ × ℤ → Bool) (from : ℕ) (ts : List (ℕ × ℤ)) → are_ordered from ts ≡ true → are_ordered from (filter test ts) ≡ true
filter_ordered test from [] is = refl
filter_ordered test from (t ∷ ts) is =
    let parts = ordered from t ts is in
    ordered_here from t (filter test ts) (test t) parts.above parts.whole (filter_ordered test (t.0 + 1) ts parts.rest)
