-- Sums of forms, one after the other.
use Rattle.std.proofs.Common.{◌≡◌, ℕ, ◌+◌, ◌<◌, ◌≤◌, List, [], ◌∷◌, ◌++◌, length, take, drop, get_or, refl, ap, sym, ◌∙◌, arith, append_assoc, map}
use Rattle.std.specs.Prelude.{ℤ, pos, ◌+ℤ◌}
use Rattle.std.proofs.lemmas.Int.{ints}
use Rattle.std.proofs.lemmas.List.{drop_more, drop_all, take_more, take_all}
use Rattle.lin_atoms.specs.Linear.{Linear}
use Rattle.lin_atoms.specs.Algebra.{negated}
use Rattle.linear_terms.specs.Linear.{all_terms, all_constants}

-- the terms of one more form
pub terms_more : (made new : List (ℕ × ℤ)) (forms whole : List Linear) (i : ℕ) (d : Linear) → i < length forms → made ++ all_terms (drop i forms) ≡ all_terms whole
    → new ≡ made ++ (get_or forms i d).terms → new ++ all_terms (drop (i + 1) forms) ≡ all_terms whole
terms_more made new forms whole i d h is e =
    ap (λ (ts : List (ℕ × ℤ)). ts ++ all_terms (drop (i + 1) forms)) e ∙ append_assoc made (get_or forms i d).terms (all_terms (drop (i + 1) forms))
    ∙ ap (λ (fs : List Linear). made ++ all_terms fs) (sym (drop_more forms i d h)) ∙ is

append_none : (xs : List (ℕ × ℤ)) → xs ++ [] ≡ xs
append_none [] = refl
append_none (x ∷ xs) = ap (λ (ys : List (ℕ × ℤ)). x ∷ ys) (append_none xs)

pub terms_end : (made : List (ℕ × ℤ)) (forms whole : List Linear) (i : ℕ) → length forms ≤ i → made ++ all_terms (drop i forms) ≡ all_terms whole → made ≡ all_terms whole
terms_end made forms whole i h is = sym (append_none made) ∙ ap (λ (fs : List Linear). made ++ all_terms fs) (sym (drop_all i forms h)) ∙ is

-- the constant of one more form
pub constants_more : (sum : ℤ) (forms : List Linear) (whole : ℤ) (i : ℕ) (d : Linear) → i < length forms → sum +ℤ all_constants (drop i forms) ≡ whole
    → (sum +ℤ (get_or forms i d).constant) +ℤ all_constants (drop (i + 1) forms) ≡ whole
constants_more sum forms whole i d h is = let e = ap all_constants (drop_more forms i d h) in omega (arith, ints)

pub constants_end : (sum : ℤ) (forms : List Linear) (whole : ℤ) (i : ℕ) → length forms ≤ i → sum +ℤ all_constants (drop i forms) ≡ whole → sum ≡ whole
constants_end sum forms whole i h is = let e : all_constants (drop i forms) ≡ pos 0 = ap all_constants (drop_all i forms h) in omega (arith, ints)

map_on : (fs : List Linear) (f : Linear) → map negated (fs ++ f ∷ []) ≡ map negated fs ++ negated f ∷ []
map_on [] f = refl
map_on (g ∷ fs) f = ap (λ (xs : List Linear). negated g ∷ xs) (map_on fs f)

-- the negation of one more form
pub signs_more : (made new others : List Linear) (first turned d : Linear) (i : ℕ) → i < length others → made ≡ first ∷ map negated (take i others) → turned ≡ negated (get_or others i d)
    → new ≡ made ++ turned ∷ [] → new ≡ first ∷ map negated (take (i + 1) others)
signs_more made new others first turned d i h is here pushed =
    pushed ∙ ap (λ (xs : List Linear). xs ++ turned ∷ []) is ∙ ap (λ (t : Linear). (first ∷ map negated (take i others)) ++ t ∷ []) here
    ∙ ap (λ (xs : List Linear). first ∷ xs) (sym (ap (map negated) (take_more others i d h) ∙ map_on (take i others) (get_or others i d)))

pub signs_end : (made others : List Linear) (first : Linear) (i : ℕ) → length others ≤ i → made ≡ first ∷ map negated (take i others) → made ≡ first ∷ map negated others
signs_end made others first i h is = is ∙ ap (λ (xs : List Linear). first ∷ map negated xs) (take_all i others h)
