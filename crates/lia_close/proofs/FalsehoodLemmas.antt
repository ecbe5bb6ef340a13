-- Trees for a literal without a variable that is false are sound.
use Rattle.std.proofs.Common.{◌≡◌, ℕ, ◌^◌, ◌<◌, List, [], ◌∷◌, length, nat_abs, refl, ap, sym, ◌∙◌, subst, arith, true, false, Bool, cond, not, ◌||◌, ◌&&◌, ◌==◌, Some}
use Rattle.std.specs.Prelude.{ℤ, pos, neg_ℤ, int_le, int_lt, nat_lt, slice_get}
use Rattle.std.specs.Option.{option_map_or}
use Rattle.std.proofs.lemmas.Bool.{and_from, eqb-true, ltb-true, not-false}
use Rattle.std.proofs.lemmas.Int.{ints}
use Rattle.lin_atoms.specs.Algebra.{negated_terms}
use Rattle.lin_atoms.specs.Linear.{Linear, are_ordered, is_short, of_constant, sum_at, value_at}
use Rattle.lin_atoms.specs.Multiples.{is_multiple}
use Rattle.lin_atoms.specs.Truth.{lit_truth}
use Rattle.lin_atoms.specs.declared.lit.Lit.{Lit}
use Rattle.lin_atoms.specs.declared.lit.Lit.TheVariants.{Le, Eq, Div, NDiv}
use Rattle.lin_atoms.proofs.Public.{both_true}
use Rattle.refutation_trees.specs.Combination.{combined, is_above_zero, linear_at, may_be_multiplied}
use Rattle.refutation_trees.specs.Refutation.{new_variable}
use Rattle.refutation_trees.specs.Split.{is_no_falsehood}
use Rattle.refutation_trees.specs.declared.tree.Refutation.{Refutation}
use Rattle.refutation_trees.specs.declared.tree.Refutation.TheViews.{Quotient}
use Rattle.refutation_trees.specs.declared.tree.Refutation.TheVariants.{Leaf}
use Rattle.lia_node.specs.Known.{has_short_constant, is_legal}
use Rattle.lia_close.specs.Placed.{IsSoundAt, Place}
use Rattle.lia_close.specs.machinery.Falsehood.{sign_of, summed_pair}
use Rattle.lia_close.proofs.PlacedLemmas.{sound-leaf}
use Rattle.lia_close.proofs.QuotientLemmas.{division-sound, rest-sound}
use Rattle.lia_close.proofs.RoundLemmas.{found-linear}
use Rattle.lia_close.proofs.SideLemmas.{combined-once, combined-turned}

-- a literal that is false has no variable
or-false : (a b : Bool) → (not a || b) ≡ false → (a ≡ true) × (b ≡ false)
or-false true b h = (refl, h)
or-false false b h = absurd (cc)

no-terms : (ts : List (ℕ × ℤ)) → (length ts == 0) ≡ true → ts ≡ []
no-terms [] h = refl
no-terms (t ∷ ts) h = absurd (let none : length (t ∷ ts) ≡ 0 = eqb-true _ _ h in omega (arith, none))

-- a form without a variable, as it is or negated
above-once : (known : List Lit) (number : ℕ) (lin : Linear) → linear_at known number ≡ lin → lin.terms ≡ [] → int_lt (pos 0) lin.constant ≡ true → is_above_zero (combined known ((number, pos 1) ∷ [])) ≡ true
above-once known number lin e none above =
    ap is_above_zero (combined-once known number lin e (ap (are_ordered 0) none)) ∙ and_from _ _ (ap (λ (ts : List (ℕ × ℤ)). length ts == 0) none) above

above-turned : (known : List Lit) (number : ℕ) (lin : Linear) → linear_at known number ≡ lin → lin.terms ≡ [] → int_lt (pos 0) (neg_ℤ lin.constant) ≡ true → is_above_zero (combined known ((number, neg_ℤ (pos 1)) ∷ [])) ≡ true
above-turned known number lin e none above =
    ap is_above_zero (combined-turned known number lin e (ap (are_ordered 0) none)) ∙ and_from _ _ (ap (λ (ts : List (ℕ × ℤ)). length (negated_terms ts) == 0) none) above

constant-value : (lin : Linear) → lin.terms ≡ [] → value_at [] lin ≡ lin.constant
constant-value lin none = let zero_sum : sum_at [] lin.terms ≡ pos 0 = ap (sum_at []) none in omega (arith, ints, zero_sum)

pub false-le : (end : ℕ) (place : Place) (number : ℕ) (lin : Linear) → is_no_falsehood (Le lin) ≡ false → slice_get place.known number ≡ Some (Le lin) → IsSoundAt end place (Leaf ((number, pos 1) ∷ []))
false-le end place number lin is there =
    let parts = or-false (length lin.terms == 0) (lit_truth [] (Le lin)) is in
    let none = no-terms lin.terms parts.0 in
    let value = constant-value lin none in
    let below : int_le lin.constant (pos 0) ≡ false = ap (λ z. int_le z (pos 0)) (sym value) ∙ parts.1 in
    let above : int_lt (pos 0) lin.constant ≡ true = grind (arith, ints) in
    sound-leaf end place ((number, pos 1) ∷ []) (and_from _ _ (ap (λ o. is_short (pos 1) && option_map_or (may_be_multiplied (pos 1)) o false) there) refl) (above-once place.known number lin (found-linear place.known number (Le lin) there) none above)

-- an equation whose constant isn't 0, with the sign of the constant
eq-by-sign : (end : ℕ) (place : Place) (number : ℕ) (lin : Linear) → lin.terms ≡ [] → (nat_abs lin.constant == 0) ≡ false → slice_get place.known number ≡ Some (Eq lin) → (b : Bool) → int_lt (pos 0) lin.constant ≡ b → IsSoundAt end place (Leaf ((number, cond b (pos 1) (neg_ℤ (pos 1))) ∷ []))
eq-by-sign end place number lin none some there true above =
    sound-leaf end place ((number, pos 1) ∷ []) (and_from _ _ (ap (λ o. is_short (pos 1) && option_map_or (may_be_multiplied (pos 1)) o false) there) refl) (above-once place.known number lin (found-linear place.known number (Eq lin) there) none above)
eq-by-sign end place number lin none some there false below =
    let above : int_lt (pos 0) (neg_ℤ lin.constant) ≡ true = grind (arith, ints) in
    sound-leaf end place ((number, neg_ℤ (pos 1)) ∷ []) (and_from _ _ (ap (λ o. is_short (neg_ℤ (pos 1)) && option_map_or (may_be_multiplied (neg_ℤ (pos 1))) o false) there) refl) (above-turned place.known number lin (found-linear place.known number (Eq lin) there) none above)

pub false-eq : (end : ℕ) (place : Place) (number : ℕ) (lin : Linear) → is_no_falsehood (Eq lin) ≡ false → slice_get place.known number ≡ Some (Eq lin) → IsSoundAt end place (Leaf ((number, sign_of lin.constant) ∷ []))
false-eq end place number lin is there =
    let parts = or-false (length lin.terms == 0) (lit_truth [] (Eq lin)) is in
    let none = no-terms lin.terms parts.0 in
    let some : (nat_abs lin.constant == 0) ≡ false = ap (λ z. nat_abs z == 0) (sym (constant-value lin none)) ∙ parts.1 in
    eq-by-sign end place number lin none some there (int_lt (pos 0) lin.constant) refl

lin-none : (lin : Linear) → lin.terms ≡ [] → lin ≡ of_constant lin.constant
lin-none lin none = ap (λ (ts : List (ℕ × ℤ)). record { terms = ts; constant = lin.constant }) none

-- a number that isn't divisible, or is where that is denied
pub false-division : (end : ℕ) (place : Place) (number n : ℕ) (lin : Linear) → is_no_falsehood (Div n lin) ≡ false → is_legal (Div n lin) ≡ true → has_short_constant (Div n lin) ≡ true → slice_get place.known number ≡ Some (Div n lin) → new_variable end place.known < 2 ^ 32
    → IsSoundAt end place (Quotient number (summed_pair (length place.known) 1 (pos n)))
false-division end place number n lin is legal short there room =
    let parts = or-false (length lin.terms == 0) (lit_truth [] (Div n lin)) is in
    let none = no-terms lin.terms parts.0 in
    let no : is_multiple (pos n) lin.constant ≡ false = ap (is_multiple (pos n)) (sym (constant-value lin none)) ∙ parts.1 in
    let some = both_true (nat_lt 0 n) _ legal in
    let small = both_true (nat_lt n (2 ^ 63)) _ some.1 in
    let long : nat_abs lin.constant < 2 ^ 63 = ltb-true _ _ short in
    division-sound end place number n lin.constant no (ltb-true _ _ some.0) (ltb-true _ _ small.0) (omega (arith, long)) (there ∙ ap (λ (l : Linear). Some (Div n l)) (lin-none lin none)) room

pub false-rest : (end : ℕ) (place : Place) (number n : ℕ) (lin : Linear) → is_no_falsehood (NDiv n lin) ≡ false → is_legal (NDiv n lin) ≡ true → has_short_constant (NDiv n lin) ≡ true → slice_get place.known number ≡ Some (NDiv n lin) → new_variable end place.known < 2 ^ 32
    → IsSoundAt end place (Quotient number (summed_pair (length place.known) 2 (pos n)))
false-rest end place number n lin is legal short there room =
    let parts = or-false (length lin.terms == 0) (lit_truth [] (NDiv n lin)) is in
    let none = no-terms lin.terms parts.0 in
    let yes : is_multiple (pos n) lin.constant ≡ true = ap (is_multiple (pos n)) (sym (constant-value lin none)) ∙ not-false (is_multiple (pos n) (value_at [] lin)) parts.1 in
    let some = both_true (nat_lt 0 n) _ legal in
    let small = both_true (nat_lt n (2 ^ 63)) _ some.1 in
    rest-sound end place number n lin.constant yes (ltb-true _ _ some.0) (ltb-true _ _ small.0) (ltb-true _ _ short) (there ∙ ap (λ (l : Linear). Some (NDiv n l)) (lin-none lin none)) room

-- as the code puts them together
pub of-le : (end : ℕ) (place : Place) (number : ℕ) (lit : Lit) (lin : Linear) (tree : Refutation) → lit ≡ Le lin → tree ≡ Leaf ((number, pos 1) ∷ []) → is_no_falsehood lit ≡ false → slice_get place.known number ≡ Some lit → IsSoundAt end place tree
of-le end place number lit lin tree e t is there = subst (λ (u : Refutation). IsSoundAt end place u) (sym t) (false-le end place number lin (ap is_no_falsehood (sym e) ∙ is) (there ∙ ap (λ (l : Lit). Some l) e))

pub of-eq : (end : ℕ) (place : Place) (number : ℕ) (lit : Lit) (lin : Linear) (tree : Refutation) → lit ≡ Eq lin → tree ≡ Leaf ((number, sign_of lin.constant) ∷ []) → is_no_falsehood lit ≡ false → slice_get place.known number ≡ Some lit → IsSoundAt end place tree
of-eq end place number lit lin tree e t is there = subst (λ (u : Refutation). IsSoundAt end place u) (sym t) (false-eq end place number lin (ap is_no_falsehood (sym e) ∙ is) (there ∙ ap (λ (l : Lit). Some l) e))

pub of-division : (end : ℕ) (place : Place) (number known n : ℕ) (lit : Lit) (lin : Linear) (d : ℤ) (sum tree : Refutation) → lit ≡ Div n lin → d ≡ pos n → sum ≡ summed_pair known 1 d → tree ≡ Quotient number sum → is_no_falsehood lit ≡ false → is_legal lit ≡ true → has_short_constant lit ≡ true
    → length place.known ≡ known → slice_get place.known number ≡ Some lit → new_variable end place.known < 2 ^ 32 → IsSoundAt end place tree
of-division end place number known n lit lin d sum tree e divisor s t is legal short long there room =
    subst (λ (u : Refutation). IsSoundAt end place u) (sym (t ∙ ap (λ (u : Refutation). Quotient number u) (s ∙ ap (λ (k : ℕ). summed_pair k 1 d) (sym long) ∙ ap (λ z. summed_pair (length place.known) 1 z) divisor)))
    (false-division end place number n lin (ap is_no_falsehood (sym e) ∙ is) (ap is_legal (sym e) ∙ legal) (ap has_short_constant (sym e) ∙ short) (there ∙ ap (λ (l : Lit). Some l) e) room)

pub of-rest : (end : ℕ) (place : Place) (number known n : ℕ) (lit : Lit) (lin : Linear) (d : ℤ) (sum tree : Refutation) → lit ≡ NDiv n lin → d ≡ pos n → sum ≡ summed_pair known 2 d → tree ≡ Quotient number sum → is_no_falsehood lit ≡ false → is_legal lit ≡ true → has_short_constant lit ≡ true
    → length place.known ≡ known → slice_get place.known number ≡ Some lit → new_variable end place.known < 2 ^ 32 → IsSoundAt end place tree
of-rest end place number known n lit lin d sum tree e divisor s t is legal short long there room =
    subst (λ (u : Refutation). IsSoundAt end place u) (sym (t ∙ ap (λ (u : Refutation). Quotient number u) (s ∙ ap (λ (k : ℕ). summed_pair k 2 d) (sym long) ∙ ap (λ z. summed_pair (length place.known) 2 z) divisor)))
    (false-rest end place number n lin (ap is_no_falsehood (sym e) ∙ is) (ap is_legal (sym e) ∙ legal) (ap has_short_constant (sym e) ∙ short) (there ∙ ap (λ (l : Lit). Some l) e) room)
