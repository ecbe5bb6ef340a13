-- Coordinates of points: those that begin with given numbers, and the bits of Bool variables.
use Rattle.std.proofs.Common.{◌≡◌, ℕ, zero, suc, ◌+◌, ◌<◌, List, [], ◌∷◌, ◌++◌, length, map, take, Bool, true, false, ◌&&◌, refl, ap, sym, ◌∙◌, arith}
use Rattle.std.specs.Prelude.{slice_get, Some, ℤ, pos, negsuc, ◌+ℤ◌, neg_ℤ, int_le}
use Rattle.std.specs.List.{list_all}
use Rattle.std.specs.Ordering.{int_eq}
use Rattle.std.proofs.lemmas.Int.{ints}
use Rattle.term_tree.specs.declared.sort.Sort.{Sort}
use Rattle.term_tree.specs.declared.sort.Sort.TheVariants.{Int as IntSort, Bool as BoolSort}
use Rattle.term_tree.specs.declared.scalar.Value.{Value}
use Rattle.term_tree.specs.declared.scalar.Value.TheVariants.{Int, Bool as Truth}
use Rattle.term_tree.specs.Truth.{HaveSorts}
use Rattle.term_tree.proofs.Public.{both_true}
use Rattle.lin_atoms.specs.Algebra.{negated, plus}
use Rattle.lin_atoms.specs.Linear.{value_at as worth_at, variable_at}
use Rattle.lin_atoms.specs.Truth.{truth}
use Rattle.lin_atoms.specs.declared.form.Form.{Form}
use Rattle.lin_atoms.proofs.Public.{truth-And}
use Rattle.linear_terms.specs.Formula.{le}
use Rattle.linear_terms.specs.Linear.{variable_form}
use Rattle.linear_terms.specs.Meeting.{number, truth_number}
use Rattle.linear_terms.proofs.JunctionLemmas.{le_truth, truth-True}
use Rattle.linear_terms.proofs.LinearLemmas.{variable_value}
use Rattle.linear_terms.proofs.RelationLemmas.{negated_truth, same_integer}
use Rattle.clause_normal.specs.Normal.{bits_from, conjunction}

-- a conjunction is true where its parts are
one_all : (b : Bool) → b ≡ (b && true)
one_all true = refl
one_all false = refl

pub conjunction_truth : (point : List ℤ) (forms : List Form) → truth point (conjunction forms) ≡ list_all (truth point) forms
conjunction_truth point [] = truth-True point
conjunction_truth point (form ∷ []) = one_all (truth point form)
conjunction_truth point (form ∷ next ∷ forms) = truth-And point (form ∷ next ∷ forms)

-- the point's coordinates from v on begin with these numbers
abbrev pub Stand : List ℤ → ℕ → List ℤ → Type 0
Stand point v [] = Unit {0}
Stand point v (x ∷ xs) = (variable_at point v ≡ x) × Stand point (v + 1) xs

pub stand_by : (point : List ℤ) (v : ℕ) (xs : List ℤ) → ((i : ℕ) → i < length xs → variable_at point (v + i) ≡ variable_at xs i) → Stand point v xs
stand_by point v [] each = tt
stand_by point v (x ∷ xs) each = (
  ap (variable_at point) (omega arith) ∙ each 0 (omega arith),
  stand_by point (v + 1) xs (λ i less. ap (variable_at point) (shifted v i) ∙ each (suc i) (omega (arith, less))),
)
  where
    shifted : (v i : ℕ) → (v + 1) + i ≡ v + suc i
    shifted v i = omega arith

pub stood : (point : List ℤ) (v : ℕ) (xs : List ℤ) → Stand point v xs → (i : ℕ) → i < length xs → variable_at point (v + i) ≡ variable_at xs i
stood point v [] all i less = absurd (omega (arith, less))
stood point v (x ∷ xs) all zero less = ap (variable_at point) (omega arith) ∙ all.0
stood point v (x ∷ xs) all (suc i) less = ap (variable_at point) (shifted v i) ∙ stood point (v + 1) xs all.1 i (omega (arith, less))
  where
    shifted : (v i : ℕ) → v + suc i ≡ (v + 1) + i
    shifted v i = omega arith

-- those of a part of it are its own
pub taken : (n i : ℕ) (point : List ℤ) → i < n → variable_at point i ≡ variable_at (take n point) i
taken zero i point less = absurd (omega (arith, less))
taken (suc n) i [] less = refl
taken (suc n) zero (x ∷ point) less = refl
taken (suc n) (suc i) (x ∷ point) less = taken n i point (omega (arith, less))

pub stand_taken : (n : ℕ) (point xs : List ℤ) → take n point ≡ xs → length xs ≡ n → Stand point 0 xs
stand_taken n point xs own long =
    stand_by point 0 xs (λ i less. ap (variable_at point) (omega arith) ∙ taken n i point (omega (arith, less, long)) ∙ ap (λ (ys : List ℤ). variable_at ys i) own)

pub front_at : (xs ys : List ℤ) (i : ℕ) → i < length xs → variable_at (xs ++ ys) i ≡ variable_at xs i
front_at [] ys i less = absurd (omega (arith, less))
front_at (x ∷ xs) ys zero less = refl
front_at (x ∷ xs) ys (suc i) less = front_at xs ys i (omega (arith, less))

pub behind_at : (xs ys : List ℤ) (i : ℕ) → variable_at (xs ++ ys) (length xs + i) ≡ variable_at ys i
behind_at [] ys i = ap (variable_at ys) (omega arith)
behind_at (x ∷ xs) ys i = ap (variable_at (x ∷ (xs ++ ys))) (shifted (length xs) i) ∙ behind_at xs ys i
  where
    shifted : (a b : ℕ) → suc a + b ≡ suc (a + b)
    shifted a b = omega arith

pub take_front : (xs ys : List ℤ) → take (length xs) (xs ++ ys) ≡ xs
take_front [] ys = refl
take_front (x ∷ xs) ys = ap (λ (zs : List ℤ). x ∷ zs) (take_front xs ys)

-- points of one length with the same coordinates are one
pub same_points : (p q : List ℤ) → length p ≡ length q → ((i : ℕ) → i < length p → variable_at p i ≡ variable_at q i) → p ≡ q
same_points [] [] long each = refl
same_points [] (y ∷ q) long each = absurd (omega (arith, long))
same_points (x ∷ p) [] long each = absurd (omega (arith, long))
same_points (x ∷ p) (y ∷ q) long each =
    ap (λ (z : ℤ). z ∷ p) (each 0 (omega arith)) ∙ ap (λ (zs : List ℤ). y ∷ zs) (same_points p q (omega (arith, long)) (λ i less. each (suc i) (omega (arith, less))))

pub mapped_at : {X : Type 0} (f : X → ℤ) (xs : List X) (i : ℕ) (x : X) → slice_get xs i ≡ Some x → variable_at (map f xs) i ≡ f x
mapped_at f [] i x is = absurd (cc)
mapped_at {X} f (y ∷ xs) zero x is = let same : y ≡ x = cc in ap f same
mapped_at f (y ∷ xs) (suc i) x is = mapped_at f xs i x is

-- the values of these sorts that numbers stand for
abbrev pub valued : List Sort → List ℤ → List Value
valued (IntSort ∷ sorts) (x ∷ xs) = Int x ∷ valued sorts xs
valued (BoolSort ∷ sorts) (x ∷ xs) = Truth (int_eq x (pos 1)) ∷ valued sorts xs
valued _ _ = []

-- the two forms of a Bool variable
not_negative : (point : List ℤ) (v : ℕ) (x : ℤ) → variable_at point v ≡ x → truth point (le (negated (variable_form v))) ≡ int_le (neg_ℤ x) (pos 0)
not_negative point v x is = negated_truth point (variable_form v) x (variable_value point v ∙ is)

at_most_one : (point : List ℤ) (v : ℕ) (x : ℤ) → variable_at point v ≡ x → truth point (le (plus (variable_form v) (negsuc 0))) ≡ int_le (x +ℤ negsuc 0) (pos 0)
at_most_one point v x is = le_truth point (plus (variable_form v) (negsuc 0)) (x +ℤ negsuc 0) (less_one (worth_at point (variable_form v)) (variable_value point v ∙ is))
  where
    less_one : (w : ℤ) → w ≡ x → worth_at point (plus (variable_form v) (negsuc 0)) ≡ x +ℤ negsuc 0
    less_one w same = let e = variable_value point v in omega (arith, ints)

bit_is_one : (x : ℤ) → int_le (neg_ℤ x) (pos 0) ≡ true → int_le (x +ℤ negsuc 0) (pos 0) ≡ true → truth_number (int_eq x (pos 1)) ≡ x
bit_is_one x low high = by_test (int_eq x (pos 1)) refl
  where
    zero_is : int_eq x (pos 1) ≡ false → pos 0 ≡ x
    zero_is other = grind (arith, ints)

    by_test : (b : Bool) → int_eq x (pos 1) ≡ b → truth_number b ≡ x
    by_test true one = sym (same_integer x (pos 1) one)
    by_test false other = zero_is other

truth_low : (b : Bool) → int_le (neg_ℤ (truth_number b)) (pos 0) ≡ true
truth_low true = refl
truth_low false = refl

truth_high : (b : Bool) → int_le (truth_number b +ℤ negsuc 0) (pos 0) ≡ true
truth_high true = refl
truth_high false = refl

both_hold : (a b : Bool) → a ≡ true → b ≡ true → (a && b) ≡ true
both_hold true b h k = k
both_hold false b h k = h

-- values of these sorts hold the forms
pub values_are_bits : (point : List ℤ) (v : ℕ) (sorts : List Sort) (values : List Value) → HaveSorts sorts values → Stand point v (map number values) → list_all (truth point) (bits_from v sorts) ≡ true
values_are_bits point v [] values have stand = refl
values_are_bits point v (s ∷ sorts) [] have stand = absurd have
values_are_bits point v (IntSort ∷ sorts) (value ∷ values) have stand = values_are_bits point (v + 1) sorts values have.1 stand.1
values_are_bits point v (BoolSort ∷ sorts) (Int n ∷ values) have stand = absurd have.0
values_are_bits point v (BoolSort ∷ sorts) (Truth b ∷ values) have stand =
    both_hold (truth point (le (negated (variable_form v)))) (list_all (truth point) (le (plus (variable_form v) (negsuc 0)) ∷ bits_from (v + 1) sorts))
    (not_negative point v (truth_number b) stand.0 ∙ truth_low b)
    (both_hold (truth point (le (plus (variable_form v) (negsuc 0)))) (list_all (truth point) (bits_from (v + 1) sorts)) (at_most_one point v (truth_number b) stand.0 ∙ truth_high b)
    (values_are_bits point (v + 1) sorts values have.1 stand.1))

-- and numbers that hold them are those of values
pub record AreValues (sorts : List Sort) (own : List ℤ) : Type 0 where
  pub have : HaveSorts sorts (valued sorts own)
  pub are : map number (valued sorts own) ≡ own

pub bits_are_values : (point : List ℤ) (v : ℕ) (sorts : List Sort) (own : List ℤ) → length own ≡ length sorts → Stand point v own → list_all (truth point) (bits_from v sorts) ≡ true → AreValues sorts own
bits_are_values point v [] [] long stand holds = record { have = tt; are = refl }
bits_are_values point v [] (x ∷ own) long stand holds = absurd (omega (arith, long))
bits_are_values point v (s ∷ sorts) [] long stand holds = absurd (omega (arith, long))
bits_are_values point v (IntSort ∷ sorts) (x ∷ own) long stand holds =
    let rest = bits_are_values point (v + 1) sorts own (omega (arith, long)) stand.1 holds in
    record { have = (tt, rest.have); are = ap (λ (xs : List ℤ). x ∷ xs) rest.are }
bits_are_values point v (BoolSort ∷ sorts) (x ∷ own) long stand holds =
    let first = both_true (truth point (le (negated (variable_form v)))) (list_all (truth point) (le (plus (variable_form v) (negsuc 0)) ∷ bits_from (v + 1) sorts)) holds in
    let second = both_true (truth point (le (plus (variable_form v) (negsuc 0)))) (list_all (truth point) (bits_from (v + 1) sorts)) first.1 in
    let rest = bits_are_values point (v + 1) sorts own (omega (arith, long)) stand.1 second.1 in
    let is : truth_number (int_eq x (pos 1)) ≡ x = bit_is_one x (sym (not_negative point v x stand.0) ∙ first.0) (sym (at_most_one point v x stand.0) ∙ second.0) in
    record {
      have = (tt, rest.have);
      are = ap (λ (z : ℤ). z ∷ map number (valued sorts own)) is ∙ ap (λ (xs : List ℤ). x ∷ xs) rest.are;
    }
