-- Values of sums, multiples and renamings, and what they depend on.
use Rattle.std.proofs.Common.{◌≡◌, ℕ, suc, zero, List, [], ◌∷◌, ◌++◌, refl, ap, sym, ◌∙◌, arith, ◌<◌, true, false, Bool, cond, ◌==◌, length, get_or, map}
use Rattle.std.specs.Prelude.{ℤ, pos, neg_ℤ, ◌+ℤ◌, ◌*ℤ◌, nat_lt}
use Rattle.std.specs.List.{list_all}
use Rattle.std.proofs.Math.IntN.{*ℤ_comm}
use Rattle.std.proofs.lemmas.Int.{ints}
use Rattle.std.proofs.lemmas.Bool.{ltb-true, eqb-true, eqb-false}
use Rattle.base.proofs.Public.{*ℤ-+ℤ, *ℤ_assoc}
use Rattle.lin_atoms.specs.Linear.{Linear, sum_at, value_at, variable_at, lin_all, lin_is_below}
use Rattle.lin_atoms.specs.Algebra.{added, name_in, negated, put_for, renamed, scaled, scaled_terms}
use Rattle.lin_atoms.proofs.LinearLemmas.{both_true, sum_at-negated}
use Rattle.lin_atoms.proofs.TermLemmas.{sum_at-term_on, sum_at-collected, sum_at-++}

pub value_at-added : (point : List ℤ) (a b : Linear) → value_at point (added a b) ≡ value_at point a +ℤ value_at point b
value_at-added point a b =
    let whole = sum_at-collected point (a.terms ++ b.terms) in
    let parts = sum_at-++ point a.terms b.terms in
    omega (arith, ints)

sum_at-scaled : (point : List ℤ) (k : ℤ) (ts : List (ℕ × ℤ)) → sum_at point (scaled_terms k ts) ≡ k *ℤ sum_at point ts
sum_at-scaled point k [] = let turned = *ℤ_comm k (pos 0) in omega (arith, ints)
sum_at-scaled point k (t ∷ ts) =
    let x = variable_at point t.0 in
    let first = sum_at-term_on point t.0 (k *ℤ t.1) (scaled_terms k ts) in
    let rest = sum_at-scaled point k ts in
    let grouped = *ℤ_assoc k t.1 x in
    let parts = *ℤ-+ℤ k (t.1 *ℤ x) (sum_at point ts) in
    omega (arith, ints)

pub value_at-scaled : (point : List ℤ) (k : ℤ) (a : Linear) → value_at point (scaled k a) ≡ k *ℤ value_at point a
value_at-scaled point k a =
    let terms = sum_at-scaled point k a.terms in
    let parts = *ℤ-+ℤ k (sum_at point a.terms) a.constant in
    omega (arith, ints)

pub value_at-negated : (point : List ℤ) (a : Linear) → value_at point (negated a) ≡ neg_ℤ (value_at point a)
value_at-negated point a = let terms = sum_at-negated point a.terms in omega (arith, ints)

sum_at-moved : (p q : List ℤ) (f : ℕ → ℕ) (ts : List (ℕ × ℤ)) → ((v : ℕ) → variable_at q v ≡ variable_at p (f v)) → sum_at p (map (λ t. (f t.0, t.1)) ts) ≡ sum_at q ts
sum_at-moved p q f [] h = refl
sum_at-moved p q f (t ∷ ts) h =
    let first : t.1 *ℤ variable_at p (f t.0) ≡ t.1 *ℤ variable_at q t.0 = ap (λ z. t.1 *ℤ z) (sym (h t.0)) in
    let rest = sum_at-moved p q f ts h in
    omega (arith, ints, first, rest)

pub value_at-renamed : (p q : List ℤ) (f : ℕ → ℕ) (a : Linear) → ((v : ℕ) → variable_at q v ≡ variable_at p (f v)) → value_at p (renamed f a) ≡ value_at q a
value_at-renamed p q f a h =
    let whole = sum_at-collected p (map (λ t. (f t.0, t.1)) a.terms) in
    let moved = sum_at-moved p q f a.terms h in
    omega (arith, ints, whole, moved)

name-at : (p : List ℤ) (names : List ℕ) (v d : ℕ) → v < length names → get_or (map (variable_at p) names) v (pos 0) ≡ variable_at p (get_or names v d)
name-at p [] v d h = absurd (omega arith)
name-at p (n ∷ ns) zero d h = refl
name-at p (n ∷ ns) (suc v) d h = name-at p ns v d (omega arith)

sum_at-named : (p : List ℤ) (names : List ℕ) (ts : List (ℕ × ℤ)) → list_all (λ t. nat_lt t.0 (length names)) ts ≡ true → sum_at p (map (λ t. (name_in names t.0, t.1)) ts) ≡ sum_at (map (variable_at p) names) ts
sum_at-named p names [] h = refl
sum_at-named p names (t ∷ ts) h =
    let parts = both_true (nat_lt t.0 (length names)) _ h in
    let first : t.1 *ℤ variable_at p (name_in names t.0) ≡ t.1 *ℤ variable_at (map (variable_at p) names) t.0 = ap (λ z. t.1 *ℤ z) (sym (name-at p names t.0 t.0 (ltb-true _ _ parts.0))) in
    let rest = sum_at-named p names ts parts.1 in
    omega (arith, ints, first, rest)

pub value_at-named : (p : List ℤ) (names : List ℕ) (a : Linear) → lin_is_below (length names) a ≡ true → value_at p (renamed (name_in names) a) ≡ value_at (map (variable_at p) names) a
value_at-named p names a h =
    let whole = sum_at-collected p (map (λ t. (name_in names t.0, t.1)) a.terms) in
    let named = sum_at-named p names a.terms h in
    omega (arith, ints, whole, named)

put_here : (p q : List ℤ) (x y v : ℕ) → variable_at q x ≡ variable_at p y → ((v ≡ x → ⊥) → variable_at q v ≡ variable_at p v) → (b : Bool) → (v == x) ≡ b → variable_at q v ≡ variable_at p (cond b y v)
put_here p q x y v here other true e = ap (variable_at q) (eqb-true v x e) ∙ here
put_here p q x y v here other false e = other (λ same. eqb-false v x e same)

pub value_at-put : (p q : List ℤ) (x y : ℕ) (a : Linear) → variable_at q x ≡ variable_at p y → ((v : ℕ) → (v ≡ x → ⊥) → variable_at q v ≡ variable_at p v) → value_at p (renamed (put_for y x) a) ≡ value_at q a
value_at-put p q x y a here other = value_at-renamed p q (put_for y x) a (λ v. put_here p q x y v here (other v) (v == x) refl)

sum_at-agree : (test : ℕ → Bool) (p q : List ℤ) (ts : List (ℕ × ℤ)) → ((v : ℕ) → test v ≡ true → variable_at p v ≡ variable_at q v) → list_all (λ t. test t.0) ts ≡ true → sum_at p ts ≡ sum_at q ts
sum_at-agree test p q [] same h = refl
sum_at-agree test p q (t ∷ ts) same h =
    let parts = both_true (test t.0) _ h in
    let first : t.1 *ℤ variable_at p t.0 ≡ t.1 *ℤ variable_at q t.0 = ap (λ z. t.1 *ℤ z) (same t.0 parts.0) in
    let rest = sum_at-agree test p q ts same parts.1 in
    omega (arith, ints, first, rest)

pub value_at-agree : (test : ℕ → Bool) (p q : List ℤ) (a : Linear) → ((v : ℕ) → test v ≡ true → variable_at p v ≡ variable_at q v) → lin_all test a ≡ true → value_at p a ≡ value_at q a
value_at-agree test p q a same h = ap (λ z. z +ℤ a.constant) (sum_at-agree test p q a.terms same h)
