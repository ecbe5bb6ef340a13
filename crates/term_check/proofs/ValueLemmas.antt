-- The values of operators at the first parts.
use Rattle.std.proofs.Common.{◌≡◌, ◌<◌, ◌≤◌, ◌-◌, List, [], ◌∷◌, length, take, drop, get_or, map, fold, ap, ◌∙◌, arith}
use Rattle.std.specs.Prelude.{ℤ, neg_ℤ, ◌-ℤ◌}
use Rattle.std.proofs.lemmas.List.{take_all}
use Rattle.term_tree.specs.Operators.{difference_of, first_of_all, on_two}
use Rattle.term_check.specs.declared.part.Part.{Part}
use Rattle.term_check.specs.Rules.{worth}

pub at_two : (f : ℤ → ℤ → ℤ) (parts : List Part) (d e : Part) (a b r : ℤ) → 2 ≤ length parts → a ≡ worth (get_or parts 0 d) → b ≡ worth (get_or parts 1 e) → r ≡ f a b
    → r ≡ on_two f (map worth parts)
at_two f [] d e a b r h first second is = absurd (omega (arith, h))
at_two f (p ∷ []) d e a b r h first second is = absurd (omega (arith, h))
at_two f (p ∷ q ∷ parts) d e a b r h first second is = is ∙ ap (λ k. f k b) first ∙ ap (λ k. f (worth p) k) second

pub less_one : (parts : List Part) (d : Part) (r : ℤ) → 1 ≤ length parts → length parts < 2 → r ≡ neg_ℤ (worth (get_or parts 0 d)) → r ≡ difference_of (map worth parts)
less_one [] d r h k is = absurd (omega (arith, h))
less_one (p ∷ []) d r h k is = is
less_one (p ∷ q ∷ parts) d r h k is = absurd (omega (arith, k))

pub first_worth : (parts : List Part) (d : Part) (a : ℤ) → 1 ≤ length parts → a ≡ worth (get_or parts 0 d) → a ≡ first_of_all (map worth parts)
first_worth [] d a h is = absurd (omega (arith, h))
first_worth (p ∷ parts) d a h is = is

pub less_the_rest : (parts : List Part) (d : Part) (a r : ℤ) → 2 ≤ length parts → a ≡ worth (get_or parts 0 d) → r ≡ fold (λ m k. m -ℤ k) a (map worth (take (length parts - 1) (drop 1 parts)))
    → r ≡ difference_of (map worth parts)
less_the_rest [] d a r h first is = absurd (omega (arith, h))
less_the_rest (p ∷ []) d a r h first is = absurd (omega (arith, h))
less_the_rest (p ∷ q ∷ parts) d a r h first is =
    let all : length (q ∷ parts) ≤ length (p ∷ q ∷ parts) - 1 = omega arith in
    is ∙ ap (λ ps. fold (λ m k. m -ℤ k) a (map worth ps)) (take_all (length (p ∷ q ∷ parts) - 1) (q ∷ parts) all) ∙ ap (λ k. fold (λ m k. m -ℤ k) k (map worth (q ∷ parts))) first
