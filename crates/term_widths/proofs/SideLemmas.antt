-- Sides from a place on.
use Rattle.std.proofs.Common.{◌≡◌, ℕ, ◌+◌, ◌<◌, ◌≤◌, List, [], ◌∷◌, ◌++◌, length, map, drop, get_or, Bool, true, false, ◌||◌, inl, inr, refl, ap, sym, ◌∙◌, arith}
use Rattle.std.specs.List.{list_any}
use Rattle.std.specs.Prelude.{pos}
use Rattle.std.proofs.lemmas.Bool.{cases_lt}
use Rattle.std.proofs.lemmas.List.{drop_all, drop_more}
use Rattle.lin_atoms.specs.Linear.{Linear, of_constant}
use Rattle.linear_terms.specs.Formula.{neighbours, pairs}
use Rattle.term_widths.specs.Sides.{is_wide_pair, is_wide_with}

pub with_more : (first : Linear) (others : List Linear) (i : ℕ) (d : Linear) → i < length others → is_wide_with first (drop i others) ≡ (is_wide_pair (first, get_or others i d) || is_wide_with first (drop (i + 1) others))
with_more first others i d h = ap (is_wide_with first) (drop_more others i d h)

pub any_both : (xs ys : List (Linear × Linear)) → list_any is_wide_pair (xs ++ ys) ≡ (list_any is_wide_pair xs || list_any is_wide_pair ys)
any_both [] ys = refl
any_both (x ∷ xs) ys = ap (λ (b : Bool). is_wide_pair x || b) (any_both xs ys) ∙ or_assoc (is_wide_pair x) (list_any is_wide_pair xs) (list_any is_wide_pair ys)
  where
    or_assoc : (a b c : Bool) → (a || (b || c)) ≡ ((a || b) || c)
    or_assoc true b c = refl
    or_assoc false b c = refl

pub pairs_more : (forms : List Linear) (i : ℕ) (d : Linear) → i < length forms
    → list_any is_wide_pair (pairs (drop i forms)) ≡ (is_wide_with (get_or forms i d) (drop (i + 1) forms) || list_any is_wide_pair (pairs (drop (i + 1) forms)))
pairs_more forms i d h =
    ap (λ (fs : List Linear). list_any is_wide_pair (pairs fs)) (drop_more forms i d h)
    ∙ any_both (map (λ (other : Linear). (get_or forms i d, other)) (drop (i + 1) forms)) (pairs (drop (i + 1) forms))

pub next_neighbours : (forms : List Linear) (i : ℕ) (d e : Linear) → i + 1 < length forms
    → list_any is_wide_pair (neighbours (drop i forms)) ≡ (is_wide_pair (get_or forms i d, get_or forms (i + 1) e) || list_any is_wide_pair (neighbours (drop (i + 1) forms)))
next_neighbours forms i d e h =
    ap (λ (fs : List Linear). list_any is_wide_pair (neighbours fs)) (drop_more forms i d (omega arith) ∙ ap (λ (fs : List Linear). get_or forms i d ∷ fs) (drop_more forms (i + 1) e h))
    ∙ ap (λ (fs : List Linear). is_wide_pair (get_or forms i d, get_or forms (i + 1) e) || list_any is_wide_pair (neighbours fs)) (sym (drop_more forms (i + 1) e h))

-- one difference is narrow, and so the others decide
pub others_decide : (step b rest whole : Bool) → step ≡ (b || rest) → step ≡ whole → b ≡ false → rest ≡ whole
others_decide step b rest whole is told narrow = sym (is ∙ ap (λ (x : Bool). x || rest) narrow) ∙ told

-- one difference is wide
pub wide_decides : (step b rest whole : Bool) → step ≡ (b || rest) → step ≡ whole → b ≡ true → true ≡ whole
wide_decides step b rest whole is told wide = sym (is ∙ ap (λ (x : Bool). x || rest) wide) ∙ told

-- no two neighbours from here on
pub last_neighbours : (forms : List Linear) (i : ℕ) → length forms ≤ i + 1 → list_any is_wide_pair (neighbours (drop i forms)) ≡ false
last_neighbours forms i h = elim (cases_lt i (length forms)) [
  | inl less ↦
      let d : Linear = of_constant (pos 0) in
      ap (λ (fs : List Linear). list_any is_wide_pair (neighbours fs)) (drop_more forms i d less ∙ ap (λ (fs : List Linear). get_or forms i d ∷ fs) (drop_all (i + 1) forms h))
  | inr past ↦ ap (λ (fs : List Linear). list_any is_wide_pair (neighbours fs)) (drop_all i forms past)
]
