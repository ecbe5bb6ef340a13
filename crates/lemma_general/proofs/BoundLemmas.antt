-- The two bounds of an equation.
use Rattle.std.proofs.Common.{◌≡◌, ℕ, ◌+◌, ◌<◌, zero, suc, length, take, get_or, List, [], ◌∷◌, ◌++◌, Bool, true, false, ◌&&◌, ◌||◌, refl, ap, ap₂, ◌∙◌, arith}
use Rattle.std.specs.Prelude.{ℤ, pos, negsuc, neg_ℤ, nat_abs, nat_le, nat_lt, int_le, ◌==◌, ◌^◌}
use Rattle.std.specs.List.{list_all, list_any}
use Rattle.std.proofs.lemmas.Bool.{eqb-true}
use Rattle.std.proofs.lemmas.List.{take_more}
use Rattle.base.specs.Widths.{is_short}
use Rattle.lin_atoms.specs.Algebra.{negated, negated_terms}
use Rattle.lin_atoms.specs.Denial.{linear_of}
use Rattle.lin_atoms.specs.Linear.{value_at}
use Rattle.lin_atoms.specs.Linear.{Linear}
use Rattle.lin_atoms.specs.Truth.{lit_is_below, lit_truth}
use Rattle.lin_atoms.specs.declared.lit.Lit.{Lit}
use Rattle.lin_atoms.specs.declared.lit.Lit.TheVariants.{Le, Eq, Div, NDiv}
use Rattle.lin_atoms.proofs.Public.{value_at-negated}
use Rattle.cube_forms.specs.Cubes.{cube_is_short, lit_is_short}
use Rattle.cube_rules.proofs.Public.{both_true, from_both, negated-short}
use Rattle.lemma_general.specs.Generals.{bounds_of}
use Rattle.lemma_general.specs.Tries.{IsWiderCube}

abs-neg : (n : ℤ) → nat_abs (neg_ℤ n) ≡ nat_abs n
abs-neg (pos zero) = refl
abs-neg (pos (suc n)) = refl
abs-neg (negsuc n) = refl

-- an equation of 0 is two bounds by 0
zero-below : (v : ℤ) → (nat_abs v == 0) ≡ true → int_le v (pos 0) ≡ true
zero-below (pos zero) h = refl
zero-below (pos (suc n)) h = let e = eqb-true (suc n) 0 h in absurd (omega (arith, e))
zero-below (negsuc n) h = let e = eqb-true (suc n) 0 h in absurd (omega (arith, e))

zero-above : (v : ℤ) → (nat_abs v == 0) ≡ true → int_le (neg_ℤ v) (pos 0) ≡ true
zero-above (pos zero) h = refl
zero-above (pos (suc n)) h = let e = eqb-true (suc n) 0 h in absurd (omega (arith, e))
zero-above (negsuc n) h = let e = eqb-true (suc n) 0 h in absurd (omega (arith, e))

negated-true : (tuple : List ℤ) (l : Linear) → (nat_abs (value_at tuple l) == 0) ≡ true → lit_truth tuple (Le (negated l)) ≡ true
negated-true tuple l h = ap (λ v. int_le v (pos 0)) (value_at-negated tuple l) ∙ zero-above (value_at tuple l) h

-- a tuple in the cube is in its bounds
pub bounds-within : (cube : List Lit) → IsWiderCube cube (bounds_of cube)
bounds-within [] tuple h = refl
bounds-within (Le l ∷ cube) tuple h = let both = both_true (lit_truth tuple (Le l)) _ h in from_both (lit_truth tuple (Le l)) _ both.0 (bounds-within cube tuple both.1)
bounds-within (Eq l ∷ cube) tuple h =
    let both = both_true (lit_truth tuple (Eq l)) _ h in
    from_both (lit_truth tuple (Le l)) _ (zero-below (value_at tuple l) both.0) (from_both (lit_truth tuple (Le (negated l))) _ (negated-true tuple l both.0) (bounds-within cube tuple both.1))
bounds-within (Div n l ∷ cube) tuple h = let both = both_true (lit_truth tuple (Div n l)) _ h in from_both (lit_truth tuple (Div n l)) _ both.0 (bounds-within cube tuple both.1)
bounds-within (NDiv n l ∷ cube) tuple h = let both = both_true (lit_truth tuple (NDiv n l)) _ h in from_both (lit_truth tuple (NDiv n l)) _ both.0 (bounds-within cube tuple both.1)

-- tests of literals that look at the linear form alone, and not at signs

bounds-all : (p : Lit → Bool) → ((l : Linear) → p (Eq l) ≡ true → (p (Le l) ≡ true) × (p (Le (negated l)) ≡ true)) → (cube : List Lit) → list_all p cube ≡ true → list_all p (bounds_of cube) ≡ true
bounds-all p f [] h = refl
bounds-all p f (Le l ∷ cube) h = let both = both_true (p (Le l)) _ h in from_both (p (Le l)) _ both.0 (bounds-all p f cube both.1)
bounds-all p f (Eq l ∷ cube) h = let both = both_true (p (Eq l)) _ h in let two = f l both.0 in from_both (p (Le l)) _ two.0 (from_both (p (Le (negated l))) _ two.1 (bounds-all p f cube both.1))
bounds-all p f (Div n l ∷ cube) h = let both = both_true (p (Div n l)) _ h in from_both (p (Div n l)) _ both.0 (bounds-all p f cube both.1)
bounds-all p f (NDiv n l ∷ cube) h = let both = both_true (p (NDiv n l)) _ h in from_both (p (NDiv n l)) _ both.0 (bounds-all p f cube both.1)

bounds-none : (p : Lit → Bool) → ((l : Linear) → p (Le l) ≡ p (Eq l)) → ((l : Linear) → p (Le (negated l)) ≡ p (Eq l)) → (cube : List Lit) → list_any p cube ≡ false → list_any p (bounds_of cube) ≡ false
bounds-none p f g [] h = refl
bounds-none p f g (Le l ∷ cube) h = by (p (Le l)) h (bounds-none p f g cube)
  where
    by : (b : Bool) → (b || list_any p cube) ≡ false → (list_any p cube ≡ false → list_any p (bounds_of cube) ≡ false) → (b || list_any p (bounds_of cube)) ≡ false
    by true k rest = k
    by false k rest = rest k
bounds-none p f g (Eq l ∷ cube) h = ap₂ (λ a b. a || (b || list_any p (bounds_of cube))) (f l) (g l) ∙ by (p (Eq l)) h (bounds-none p f g cube)
  where
    by : (b : Bool) → (b || list_any p cube) ≡ false → (list_any p cube ≡ false → list_any p (bounds_of cube) ≡ false) → (b || (b || list_any p (bounds_of cube))) ≡ false
    by true k rest = k
    by false k rest = rest k
bounds-none p f g (Div n l ∷ cube) h = by (p (Div n l)) h (bounds-none p f g cube)
  where
    by : (b : Bool) → (b || list_any p cube) ≡ false → (list_any p cube ≡ false → list_any p (bounds_of cube) ≡ false) → (b || list_any p (bounds_of cube)) ≡ false
    by true k rest = k
    by false k rest = rest k
bounds-none p f g (NDiv n l ∷ cube) h = by (p (NDiv n l)) h (bounds-none p f g cube)
  where
    by : (b : Bool) → (b || list_any p cube) ≡ false → (list_any p cube ≡ false → list_any p (bounds_of cube) ≡ false) → (b || list_any p (bounds_of cube)) ≡ false
    by true k rest = k
    by false k rest = rest k

-- places and widths

negated-below : (n : ℕ) (terms : List (ℕ × ℤ)) → list_all (λ t. nat_lt t.0 n) (negated_terms terms) ≡ list_all (λ t. nat_lt t.0 n) terms
negated-below n [] = refl
negated-below n (t ∷ terms) = ap (λ b. nat_lt t.0 n && b) (negated-below n terms)

pub bounds-below : (n : ℕ) (cube : List Lit) → list_all (lit_is_below n) cube ≡ true → list_all (lit_is_below n) (bounds_of cube) ≡ true
bounds-below n cube h = bounds-all (lit_is_below n) (λ l below. (below, negated-below n l.terms ∙ below)) cube h

negated-wide : (terms : List (ℕ × ℤ)) → list_any (λ t. nat_le (2 ^ 54) (nat_abs t.1)) (negated_terms terms) ≡ list_any (λ t. nat_le (2 ^ 54) (nat_abs t.1)) terms
negated-wide [] = refl
negated-wide (t ∷ terms) = ap₂ (λ a b. a || b) (ap (nat_le (2 ^ 54)) (abs-neg t.1)) (negated-wide terms)

pub bounds-thin : (cube : List Lit) → list_any (λ lit. list_any (λ t. nat_le (2 ^ 54) (nat_abs t.1)) (linear_of lit).terms) cube ≡ false → list_any (λ lit. list_any (λ t. nat_le (2 ^ 54) (nat_abs t.1)) (linear_of lit).terms) (bounds_of cube) ≡ false
bounds-thin cube h = bounds-none (λ lit. list_any (λ t. nat_le (2 ^ 54) (nat_abs t.1)) (linear_of lit).terms) (λ l. refl) (λ l. negated-wide l.terms) cube h

short-negated : (c : ℤ) → is_short (neg_ℤ c) ≡ is_short c
short-negated c = ap (λ n. nat_lt n (2 ^ 63)) (abs-neg c)

pub bounds-short : (cube : List Lit) → cube_is_short cube ≡ true → cube_is_short (bounds_of cube) ≡ true
bounds-short cube h = bounds-all lit_is_short (λ l short. (short, ap₂ (λ a b. a && b) (negated-short l.terms) (short-negated l.constant) ∙ short)) cube h

-- lists in order

pub bounds-append : (front back : List Lit) → bounds_of (front ++ back) ≡ bounds_of front ++ bounds_of back
bounds-append [] back = refl
bounds-append (Le l ∷ front) back = ap (λ rest. Le l ∷ rest) (bounds-append front back)
bounds-append (Eq l ∷ front) back = ap (λ rest. Le l ∷ Le (negated l) ∷ rest) (bounds-append front back)
bounds-append (Div n l ∷ front) back = ap (λ rest. Div n l ∷ rest) (bounds-append front back)
bounds-append (NDiv n l ∷ front) back = ap (λ rest. NDiv n l ∷ rest) (bounds-append front back)

pub bounds-next : (lits : List Lit) (i : ℕ) (d : Lit) → i < length lits → bounds_of (take (i + 1) lits) ≡ bounds_of (take i lits) ++ bounds_of (get_or lits i d ∷ [])
bounds-next lits i d within = ap bounds_of (take_more lits i d within) ∙ bounds-append (take i lits) (get_or lits i d ∷ [])
