-- Sizes of forms: no sum and no multiple has a greater one than its parts allow, and a form of a short size is narrow.
use Rattle.std.proofs.Common.{◌≡◌, ◌<◌, ◌≤◌, ℕ, ◌+◌, ◌*◌, List, [], ◌∷◌, ◌++◌, map, Bool, true, false, cond, not, ◌&&◌, ◌||◌, ◌==◌, refl, ap, ◌∙◌, arith}
use Rattle.std.proofs.lemmas.Bool.Decides.{nat_tests}
use Rattle.std.proofs.lemmas.Int.{ints, unsigned_abs-mul}
use Rattle.std.specs.Prelude.{nat_lt, ℤ, nat_abs, neg_ℤ, ◌+ℤ◌, ◌*ℤ◌}
use Rattle.std.specs.List.{list_any}
use Rattle.base.specs.Widths.{is_short, short_limit}
use Rattle.term_tree.specs.declared.node.OpKind.{OpKind}
use Rattle.term_tree.specs.declared.node.OpKind.TheVariants.{Distinct}
use Rattle.lin_atoms.specs.Linear.{Linear, are_short}
use Rattle.lin_atoms.specs.Algebra.{collected, negated, negated_terms, scaled, scaled_terms, term_on, with_term}
use Rattle.linear_terms.specs.Formula.{neighbours, pairs, sides}
use Rattle.linear_terms.specs.Linear.{all_constants, all_terms, difference_form, is_narrow, less, sum_form}
use Rattle.term_widths.specs.Sides.{is_wide_pair}
use Rattle.term_widths.specs.machinery.Room.{form_size, terms_size}
use Rattle.term_widths.proofs.SideLemmas.{any_both}

size_on : (v : ℕ) (a : ℤ) (ts : List (ℕ × ℤ)) (b : Bool) → terms_size (cond b ts ((v, a) ∷ ts)) ≤ nat_abs a + terms_size ts
size_on v a ts true = omega arith
size_on v a ts false = omega arith

size_step : (v : ℕ) (a : ℤ) (t : ℕ × ℤ) (ts us : List (ℕ × ℤ)) → terms_size us ≤ nat_abs a + terms_size ts → (b c : Bool)
    → terms_size (cond b (term_on v a (t ∷ ts)) (cond c (term_on v (a +ℤ t.1) ts) (t ∷ us))) ≤ nat_abs a + (nat_abs t.1 + terms_size ts)
size_step v a t ts us rest true c = size_on v a (t ∷ ts) (nat_abs a == 0)
size_step v a t ts us rest false true = let e = size_on v (a +ℤ t.1) ts (nat_abs (a +ℤ t.1) == 0) in omega (arith, ints, e)
size_step v a t ts us rest false false = omega (arith, rest)

size_with : (v : ℕ) (a : ℤ) (ts : List (ℕ × ℤ)) → terms_size (with_term v a ts) ≤ nat_abs a + terms_size ts
size_with v a [] = size_on v a [] (nat_abs a == 0)
size_with v a (t ∷ ts) = size_step v a t ts (with_term v a ts) (size_with v a ts) (nat_lt v t.0) (v == t.0)

size_collected : (ts : List (ℕ × ℤ)) → terms_size (collected ts) ≤ terms_size ts
size_collected [] = omega arith
size_collected (t ∷ ts) =
    let rest = size_collected ts in
    let here = size_with t.0 t.1 (collected ts) in
    omega (arith, here, rest)

size_both : (ts us : List (ℕ × ℤ)) → terms_size (ts ++ us) ≡ terms_size ts + terms_size us
size_both [] us = omega arith
size_both (t ∷ ts) us = let rest = size_both ts us in omega (arith, rest)

size_negated_terms : (ts : List (ℕ × ℤ)) → terms_size (negated_terms ts) ≡ terms_size ts
size_negated_terms [] = refl
size_negated_terms (t ∷ ts) =
    let rest = size_negated_terms ts in
    let here : nat_abs (neg_ℤ t.1) ≡ nat_abs t.1 = omega (arith, ints) in
    omega (arith, rest, here)

size_negated : (f : Linear) → form_size (negated f) ≡ form_size f
size_negated f =
    let terms = size_negated_terms f.terms in
    let here : nat_abs (neg_ℤ f.constant) ≡ nat_abs f.constant = omega (arith, ints) in
    omega (arith, terms, here)

size_scaled_terms : (k : ℤ) (ts : List (ℕ × ℤ)) → terms_size (scaled_terms k ts) ≤ nat_abs k * terms_size ts
size_scaled_terms k [] = omega arith
size_scaled_terms k (t ∷ ts) =
    let rest = size_scaled_terms k ts in
    let here = size_on t.0 (k *ℤ t.1) (scaled_terms k ts) (nat_abs (k *ℤ t.1) == 0) in
    let product = unsigned_abs-mul k t.1 in
    omega (arith, here, rest, product)

pub size_scaled : (k : ℤ) (f : Linear) → form_size (scaled k f) ≤ nat_abs k * form_size f
size_scaled k f =
    let terms = size_scaled_terms k f.terms in
    let product = unsigned_abs-mul k f.constant in
    omega (arith, terms, product)

-- the size of several forms
abbrev pub sizes : List Linear → ℕ
sizes [] = 0
sizes (f ∷ fs) = form_size f + sizes fs

size_all : (fs : List Linear) → terms_size (all_terms fs) + nat_abs (all_constants fs) ≤ sizes fs
size_all [] = omega arith
size_all (f ∷ fs) =
    let rest = size_all fs in
    let both = size_both f.terms (all_terms fs) in
    let sum : nat_abs (f.constant +ℤ all_constants fs) ≤ nat_abs f.constant + nat_abs (all_constants fs) = omega (arith, ints) in
    omega (arith, rest, both, sum)

pub size_sum : (fs : List Linear) → form_size (sum_form fs) ≤ sizes fs
size_sum fs =
    let terms = size_collected (all_terms fs) in
    let all = size_all fs in
    omega (arith, terms, all)

sizes_negated : (fs : List Linear) → sizes (map negated fs) ≡ sizes fs
sizes_negated [] = refl
sizes_negated (f ∷ fs) =
    let rest = sizes_negated fs in
    let here = size_negated f in
    omega (arith, rest, here)

pub size_difference : (fs : List Linear) → form_size (difference_form fs) ≤ sizes fs
size_difference [] = omega arith
size_difference (f ∷ []) = let here = size_negated f in omega (arith, here)
size_difference (f ∷ g ∷ fs) =
    let sum = size_sum (f ∷ map negated (g ∷ fs)) in
    let rest = sizes_negated (g ∷ fs) in
    omega (arith, sum, rest)

size_less : (f g : Linear) → form_size (less f g) ≤ form_size f + form_size g
size_less f g =
    let terms = size_collected (f.terms ++ (negated g).terms) in
    let both = size_both f.terms (negated g).terms in
    let turned = size_negated g in
    let sum : nat_abs (f.constant +ℤ neg_ℤ g.constant) ≤ nat_abs f.constant + nat_abs (neg_ℤ g.constant) = omega (arith, ints) in
    omega (arith, terms, both, turned, sum)

short_at : (n : ℤ) → nat_abs n < short_limit → is_short n ≡ true
short_at n h = grind (arith, nat_tests)

narrow_terms : (ts : List (ℕ × ℤ)) → terms_size ts < short_limit → are_short ts ≡ true
narrow_terms [] h = refl
narrow_terms (t ∷ ts) h =
    let here : nat_abs t.1 < short_limit = omega (arith, h) in
    let rest : terms_size ts < short_limit = omega (arith, h) in
    ap (λ (b : Bool). b && are_short ts) (short_at t.1 here) ∙ narrow_terms ts rest

pub narrow_by_size : (f : Linear) → form_size f < short_limit → is_narrow f ≡ true
narrow_by_size f h =
    let terms : terms_size f.terms < short_limit = omega (arith, h) in
    let constant : nat_abs f.constant < short_limit = omega (arith, h) in
    ap (λ (b : Bool). b && is_short f.constant) (narrow_terms f.terms terms) ∙ short_at f.constant constant

-- differences of forms that are short together
narrow_pair : (f g : Linear) → form_size f + form_size g < short_limit → is_wide_pair (f, g) ≡ false
narrow_pair f g h =
    let size = size_less f g in
    let small : form_size (less f g) < short_limit = omega (arith, h, size) in
    ap not (narrow_by_size (less f g) small)

narrow_neighbours : (fs : List Linear) → sizes fs < short_limit → list_any is_wide_pair (neighbours fs) ≡ false
narrow_neighbours [] h = refl
narrow_neighbours (f ∷ []) h = refl
narrow_neighbours (f ∷ g ∷ fs) h =
    let here : form_size f + form_size g < short_limit = omega (arith, h) in
    let rest : sizes (g ∷ fs) < short_limit = omega (arith, h) in
    ap (λ (b : Bool). b || list_any is_wide_pair (neighbours (g ∷ fs))) (narrow_pair f g here) ∙ narrow_neighbours (g ∷ fs) rest

narrow_with : (f : Linear) (fs : List Linear) → form_size f + sizes fs < short_limit → list_any is_wide_pair (map (λ (g : Linear). (f, g)) fs) ≡ false
narrow_with f [] h = refl
narrow_with f (g ∷ fs) h =
    let here : form_size f + form_size g < short_limit = omega (arith, h) in
    let rest : form_size f + sizes fs < short_limit = omega (arith, h) in
    ap (λ (b : Bool). b || list_any is_wide_pair (map (λ (l : Linear). (f, l)) fs)) (narrow_pair f g here) ∙ narrow_with f fs rest

narrow_pairs : (fs : List Linear) → sizes fs < short_limit → list_any is_wide_pair (pairs fs) ≡ false
narrow_pairs [] h = refl
narrow_pairs (f ∷ fs) h =
    let rest : sizes fs < short_limit = omega (arith, h) in
    any_both (map (λ (g : Linear). (f, g)) fs) (pairs fs) ∙ ap (λ (b : Bool). b || list_any is_wide_pair (pairs fs)) (narrow_with f fs h) ∙ narrow_pairs fs rest

pub narrow_sides : (op : OpKind) (fs : List Linear) → sizes fs < short_limit → list_any is_wide_pair (sides op fs) ≡ false
narrow_sides Distinct fs h = narrow_pairs fs h
narrow_sides _ fs h = narrow_neighbours fs h
