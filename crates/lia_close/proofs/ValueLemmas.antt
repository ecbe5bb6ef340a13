-- A form whose value is the same at each point has no variable.
use Rattle.std.proofs.Common.{◌≡◌, ℕ, zero, suc, ◌+◌, ◌≤◌, List, [], ◌∷◌, ◌++◌, length, refl, ap, ◌∙◌, arith, true, ◌==◌}
use Rattle.std.specs.Prelude.{ℤ, pos, ◌+ℤ◌, ◌*ℤ◌, int_lt}
use Rattle.std.proofs.lemmas.Bool.{and_from}
use Rattle.std.proofs.lemmas.Int.{ints}
use Rattle.std.proofs.lemmas.List.{get_or_past}
use Rattle.std.proofs.Math.IntN.{*ℤ-zero, *ℤ_comm}
use Rattle.lin_atoms.specs.Algebra.{scaled}
use Rattle.lin_atoms.specs.Linear.{are_ordered, sum_at, value_at, variable_at}
use Rattle.lin_atoms.specs.declared.lit.Lit.{Lit}
use Rattle.lin_atoms.proofs.Public.{collected-ordered, ordered}
use Rattle.refutation_trees.specs.Combination.{combined, is_above_zero, linear_at}

-- 1 at the variable, and 0 at those before and behind it
unit : ℕ → List ℤ
unit zero = pos 1 ∷ []
unit (suc v) = pos 0 ∷ unit v

unit-at : (v : ℕ) → variable_at (unit v) v ≡ pos 1
unfolding unit
unit-at zero = refl
unit-at (suc v) = unit-at v

length-unit : (v : ℕ) → length (unit v) ≡ v + 1
unfolding unit
length-unit zero = refl
length-unit (suc v) = let rest = length-unit v in omega (arith, rest)

-- variables past the end of a point stand for 0
sum-past : (p : List ℤ) (from : ℕ) (ts : List (ℕ × ℤ)) → are_ordered from ts ≡ true → length p ≤ from → sum_at p ts ≡ pos 0
sum-past p from [] is long = refl
sum-past p from (t ∷ ts) is long =
    let parts = ordered from t ts is in
    let here : variable_at p t.0 ≡ pos 0 = get_or_past p t.0 (pos 0) (omega (arith, parts.above, long)) in
    let none : t.1 *ℤ variable_at p t.0 ≡ pos 0 = ap (λ z. t.1 *ℤ z) here ∙ *ℤ-zero t.1 in
    let rest = sum-past p (t.0 + 1) ts parts.rest (omega (arith, parts.above, long)) in
    omega (arith, ints, none, rest)

pub same-everywhere : (ts : List (ℕ × ℤ)) (k c : ℤ) → are_ordered 0 ts ≡ true → ((p : List ℤ) → sum_at p ts +ℤ k ≡ c) → (ts ≡ []) × (k ≡ c)
same-everywhere [] k c is same = (refl, (let here = same [] in omega (arith, ints, here)))
same-everywhere (t ∷ ts) k c is same =
    let parts = ordered 0 t ts is in
    let p = unit t.0 in
    let zero_at : sum_at [] (t ∷ ts) ≡ pos 0 = sum-past [] 0 (t ∷ ts) is (omega arith) in
    let nowhere = same [] in
    let behind : sum_at p ts ≡ pos 0 = sum-past p (t.0 + 1) ts parts.rest (let long = length-unit t.0 in omega (arith, long)) in
    let one : t.1 *ℤ variable_at p t.0 ≡ t.1 = ap (λ z. t.1 *ℤ z) (unit-at t.0) ∙ *ℤ_comm t.1 (pos 1) ∙ (let plain : pos 1 *ℤ t.1 ≡ t.1 = grind (arith, ints) in plain) in
    let there = same p in
    absurd (omega (arith, ints, zero_at, nowhere, behind, one, there, parts.whole))

pub combined-ordered : (lits : List Lit) (ms : List (ℕ × ℤ)) → are_ordered 0 (combined lits ms).terms ≡ true
combined-ordered lits [] = refl
combined-ordered lits (m ∷ ms) = collected-ordered ((scaled m.1 (linear_at lits m.0)).terms ++ (combined lits ms).terms)

-- a sum whose value is a number above 0 at each point is a leaf's
pub above-everywhere : (lits : List Lit) (ms : List (ℕ × ℤ)) (c : ℤ) → ((p : List ℤ) → value_at p (combined lits ms) ≡ c) → int_lt (pos 0) c ≡ true → is_above_zero (combined lits ms) ≡ true
above-everywhere lits ms c same above =
    let is = same-everywhere (combined lits ms).terms (combined lits ms).constant c (combined-ordered lits ms) same in
    and_from _ _ (ap (λ (ts : List (ℕ × ℤ)). length ts == 0) is.0) (ap (λ z. int_lt (pos 0) z) is.1 ∙ above)
