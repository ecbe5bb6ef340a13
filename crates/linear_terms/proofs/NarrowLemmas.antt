-- Products that stay narrow, or never become so again.
use Rattle.std.proofs.Common.{◌≡◌, ℕ, zero, suc, ◌+◌, ◌*◌, ◌<◌, ◌≤◌, ◌^◌, List, [], ◌∷◌, length, drop, get_or, Bool, true, false, ◌&&◌, ◌||◌, ◌==◌, refl, ap, sym, ◌∙◌, subst, arith}
use Rattle.std.specs.Prelude.{ℤ, pos, ◌*ℤ◌, nat_abs, nat_lt, nat_le, fold, Option, Some, None, slice_get, if◌then◌else◌}
use Rattle.std.proofs.Math.Nat.{le-mul_of_pos_right}
use Rattle.std.proofs.Math.IntN.{*ℤ-zero, zero-*ℤ}
use Rattle.std.proofs.lemmas.Int.{ints, unsigned_abs-mul}
use Rattle.std.proofs.lemmas.List.{drop_more, drop_all}
use Rattle.std.proofs.lemmas.Bool.Decides.{nat_tests}
use Rattle.term_tree.specs.Constants.{constants_among}
use Rattle.term_tree.specs.Operators.{product_of}
use Rattle.lin_atoms.specs.Linear.{Linear, is_short, are_short, are_ordered}
use Rattle.lin_atoms.specs.Algebra.{scaled, scaled_terms, term_on}
use Rattle.lin_atoms.proofs.Public.{both_true}
use Rattle.linear_terms.specs.Linear.{is_narrow, varying_form}
use Rattle.linear_terms.specs.Short.{has_zero, is_nothing, short_or_none, is_zero_form, has_no_terms, times}

pub abs_product : (a b : ℤ) → nat_abs (a *ℤ b) ≡ nat_abs a * nat_abs b
abs_product a b = unsigned_abs-mul a b

some_of : (n : ℕ) → (n == 0) ≡ false → 0 < n
some_of n h = grind (arith, nat_tests)

wide_of : (m n : ℕ) → m ≤ n → nat_lt m (2 ^ 63) ≡ false → nat_lt n (2 ^ 63) ≡ false
wide_of m n h wide = grind (arith, nat_tests)

-- a wide number times one that isn't 0 is wide
pub wide_times : (a b : ℤ) → is_short a ≡ false → 0 < nat_abs b → is_short (a *ℤ b) ≡ false
wide_times a b wide some = wide_of (nat_abs a) (nat_abs (a *ℤ b)) (subst (λ (k : ℕ). nat_abs a ≤ k) (sym (abs_product a b)) (le-mul_of_pos_right {m = nat_abs b} (nat_abs a) some)) wide

either_false : (a b : Bool) → (a || b) ≡ false → (a ≡ false) × (b ≡ false)
either_false true b h = absurd (cc)
either_false false b h = (refl, h)

pub wide_product : (a : ℤ) (cs : List (Option ℤ)) → has_zero cs ≡ false → is_short a ≡ false → is_short (fold (λ x n. x *ℤ n) a (constants_among cs)) ≡ false
wide_product a [] some wide = wide
wide_product a (None ∷ cs) some wide = wide_product a cs some wide
wide_product a (Some k ∷ cs) some wide =
    let both = either_false (nat_abs k == 0) (has_zero cs) some in
    wide_product (a *ℤ k) cs both.1 (wide_times a k wide (some_of (nat_abs k) both.0))

none_of : (k : ℤ) → (nat_abs k == 0) ≡ true → k ≡ pos 0
none_of k h = grind (arith, ints)

zero_product : (cs : List (Option ℤ)) → fold (λ x n. x *ℤ n) (pos 0) (constants_among cs) ≡ pos 0
zero_product [] = refl
zero_product (None ∷ cs) = zero_product cs
zero_product (Some k ∷ cs) = ap (λ (x : ℤ). fold (λ y n. y *ℤ n) x (constants_among cs)) (zero-*ℤ k) ∙ zero_product cs

at_zero : (a k : ℤ) (cs : List (Option ℤ)) → ((x : ℤ) → has_zero cs ≡ true → fold (λ y n. y *ℤ n) x (constants_among cs) ≡ pos 0) → (b : Bool) → (nat_abs k == 0) ≡ b → (b || has_zero cs) ≡ true
    → fold (λ x n. x *ℤ n) (a *ℤ k) (constants_among cs) ≡ pos 0
at_zero a k cs rest true is h = ap (λ (x : ℤ). fold (λ y n. y *ℤ n) x (constants_among cs)) (ap (λ (x : ℤ). a *ℤ x) (none_of k is) ∙ *ℤ-zero a) ∙ zero_product cs
at_zero a k cs rest false is h = rest (a *ℤ k) h

has_one : (a : ℤ) (cs : List (Option ℤ)) → has_zero cs ≡ true → fold (λ x n. x *ℤ n) a (constants_among cs) ≡ pos 0
has_one a [] h = absurd (cc)
has_one a (None ∷ cs) h = has_one a cs h
has_one a (Some k ∷ cs) h = at_zero a k cs (λ x z. has_one x cs z) (nat_abs k == 0) refl h

-- with a factor 0 the product is 0
pub zero_among : (cs : List (Option ℤ)) → has_zero cs ≡ true → Some (pos 0) ≡ short_or_none (product_of (constants_among cs))
zero_among cs h = ap (λ (x : ℤ). short_or_none x) (sym (has_one (pos 1) cs h))

times_on : (a : ℤ) (c : Option ℤ) (cs : List (Option ℤ)) → fold (λ x n. x *ℤ n) a (constants_among (c ∷ cs)) ≡ fold (λ x n. x *ℤ n) (times a c) (constants_among cs)
times_on a None cs = refl
times_on a (Some k) cs = refl

-- the product of one more factor
pub product_more : (a : ℤ) (cs : List (Option ℤ)) (i : ℕ) (d : Option ℤ) → i < length cs
    → fold (λ x n. x *ℤ n) a (constants_among (drop i cs)) ≡ fold (λ x n. x *ℤ n) (times a (get_or cs i d)) (constants_among (drop (i + 1) cs))
product_more a cs i d h = ap (λ (xs : List (Option ℤ)). fold (λ x n. x *ℤ n) a (constants_among xs)) (drop_more cs i d h) ∙ times_on a (get_or cs i d) (drop (i + 1) cs)

zero_rest : (c : Option ℤ) (cs : List (Option ℤ)) → has_zero (c ∷ cs) ≡ false → has_zero cs ≡ false
zero_rest None cs h = h
zero_rest (Some k) cs h = (either_false (nat_abs k == 0) (has_zero cs) h).1

pub zero_more : (cs : List (Option ℤ)) (i : ℕ) (d : Option ℤ) → i < length cs → has_zero (drop i cs) ≡ false → has_zero (drop (i + 1) cs) ≡ false
zero_more cs i d h some = zero_rest (get_or cs i d) (drop (i + 1) cs) (ap has_zero (sym (drop_more cs i d h)) ∙ some)

pub short_some : (n m : ℤ) → Some m ≡ short_or_none n → (m ≡ n) × (is_short n ≡ true)
short_some n m h = by_test (is_short n) refl h
  where
    by_test : (b : Bool) → is_short n ≡ b → Some m ≡ (if b then Some n else None) → (m ≡ n) × (is_short n ≡ true)
    by_test true is h = (cc, is)
    by_test false is h = absurd (cc)

pub short_none : (n : ℤ) → None ≡ short_or_none n → is_short n ≡ false
short_none n h = by_test (is_short n) refl h
  where
    by_test : (b : Bool) → is_short n ≡ b → None ≡ (if b then Some n else None) → is_short n ≡ false
    by_test true is h = absurd (cc)
    by_test false is h = is

pub short_is : (n : ℤ) → is_short n ≡ true → Some n ≡ short_or_none n
short_is n h = ap (λ (b : Bool). if b then Some n else None) (sym h)

pub wide_is : (n : ℤ) → is_short n ≡ false → None ≡ short_or_none n
wide_is n h = ap (λ (b : Bool). if b then Some n else None) (sym h)

kept : (v : ℕ) (a : ℤ) (ts : List (ℕ × ℤ)) → is_short a ≡ false → are_short (term_on v a ts) ≡ false
kept v a ts wide = by_test (nat_abs a == 0) refl
  where
    by_test : (b : Bool) → (nat_abs a == 0) ≡ b → are_short (if b then ts else (v, a) ∷ ts) ≡ false
    by_test true is = let e : is_short a ≡ true = ap is_short (none_of a is) in absurd (cc)
    by_test false is = ap (λ (b : Bool). b && are_short ts) wide

some_first : (t : ℕ × ℤ) (ts : List (ℕ × ℤ)) → are_ordered 0 (t ∷ ts) ≡ true → 0 < nat_abs t.1
some_first t ts h = let first = (both_true (nat_lt 0 (nat_abs t.1)) (are_ordered (t.0 + 1) ts) (both_true (nat_le 0 t.0) (nat_lt 0 (nat_abs t.1) && are_ordered (t.0 + 1) ts) h).1).0 in grind (arith, nat_tests)

-- a form that isn't 0, times a wide number, is wide
pub wide_scaled : (k : ℤ) (form : Linear) → is_short k ≡ false → are_ordered 0 form.terms ≡ true → is_zero_form form ≡ false → is_narrow (scaled k form) ≡ false
wide_scaled k form wide is some = by_terms form.terms is some
  where
    constant_only : (b : Bool) → (nat_abs form.constant == 0) ≡ b → b ≡ false → is_short (k *ℤ form.constant) ≡ false
    constant_only b e f = wide_times k form.constant wide (some_of (nat_abs form.constant) (e ∙ f))

    by_terms : (ts : List (ℕ × ℤ)) → are_ordered 0 ts ≡ true → (has_no_terms ts && (nat_abs form.constant == 0)) ≡ false → (are_short (scaled_terms k ts) && is_short (k *ℤ form.constant)) ≡ false
    by_terms [] o some = constant_only (nat_abs form.constant == 0) refl some
    by_terms (t ∷ ts) o some = ap (λ (b : Bool). b && is_short (k *ℤ form.constant)) (kept t.0 (k *ℤ t.1) (scaled_terms k ts) (wide_times k t.1 wide (some_first t ts o)))

-- 0 times any number is 0
pub zero_scaled : (k : ℤ) (terms : List (ℕ × ℤ)) (constant : ℤ) → is_zero_form (record { terms = terms; constant = constant }) ≡ true
    → record { terms = []; constant = pos 0 } ≡ scaled k (record { terms = terms; constant = constant })
zero_scaled k [] constant h = ap (λ (c : ℤ). record { terms = []; constant = c }) (sym (ap (λ (c : ℤ). k *ℤ c) (none_of constant h) ∙ *ℤ-zero k))
zero_scaled k (t ∷ ts) constant h = absurd (cc)

pub varying_nothing : (cs : List (Option ℤ)) → varying_form cs [] ≡ None
varying_nothing [] = refl
varying_nothing (c ∷ cs) = refl

varying_on : (c : Option ℤ) (cs : List (Option ℤ)) (f : Linear) (fs : List Linear) → (b : Bool) → is_nothing c ≡ b → varying_form (c ∷ cs) (f ∷ fs) ≡ (if b then Some f else varying_form cs fs)
varying_on None cs f fs true is = refl
varying_on None cs f fs false is = absurd (cc)
varying_on (Some k) cs f fs true is = absurd (cc)
varying_on (Some k) cs f fs false is = refl

pub varying_at : (cs : List (Option ℤ)) (fs : List Linear) (i : ℕ) (d : Option ℤ) (e : Linear) → i < length cs → i < length fs → (b : Bool) → is_nothing (get_or cs i d) ≡ b
    → varying_form (drop i cs) (drop i fs) ≡ (if b then Some (get_or fs i e) else varying_form (drop (i + 1) cs) (drop (i + 1) fs))
varying_at cs fs i d e h g b is =
    ap (λ (xs : List (Option ℤ)). varying_form xs (drop i fs)) (drop_more cs i d h) ∙ ap (λ (ys : List Linear). varying_form (get_or cs i d ∷ drop (i + 1) cs) ys) (drop_more fs i e g)
    ∙ varying_on (get_or cs i d) (drop (i + 1) cs) (get_or fs i e) (drop (i + 1) fs) b is

pub varying_past : (cs : List (Option ℤ)) (fs : List Linear) (i : ℕ) → length fs ≤ i → varying_form (drop i cs) (drop i fs) ≡ None
varying_past cs fs i h = ap (λ (ys : List Linear). varying_form (drop i cs) ys) (drop_all i fs h) ∙ varying_nothing (drop i cs)

pub varying_end : (cs : List (Option ℤ)) (fs : List Linear) (i : ℕ) → length cs ≤ i → varying_form (drop i cs) (drop i fs) ≡ None
varying_end cs fs i h = ap (λ (xs : List (Option ℤ)). varying_form xs (drop i fs)) (drop_all i cs h)

-- once a product is wide, and no factor is 0, it stays so
pub product_wide : (a : ℤ) (cs : List (Option ℤ)) (i : ℕ) (d : Option ℤ) (whole : ℤ) → i < length cs → fold (λ x n. x *ℤ n) a (constants_among (drop i cs)) ≡ whole
    → has_zero (drop i cs) ≡ false → None ≡ short_or_none (times a (get_or cs i d)) → None ≡ short_or_none whole
product_wide a cs i d whole h is some none =
    let wide = wide_product (times a (get_or cs i d)) (drop (i + 1) cs) (zero_more cs i d h some) (short_none (times a (get_or cs i d)) none) in
    wide_is whole (ap is_short (sym is ∙ product_more a cs i d h) ∙ wide)

pub some_at : (fs : List Linear) (i : ℕ) (d : Linear) → i < length fs → Some (get_or fs i d) ≡ slice_get fs i
some_at [] i d h = absurd (omega arith)
some_at (f ∷ fs) zero d h = refl
some_at (f ∷ fs) (suc i) d h = some_at fs i d (omega arith)
