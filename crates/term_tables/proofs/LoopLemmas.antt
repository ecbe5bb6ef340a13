-- Sums, differences and products of constants, one after the other.
use Rattle.std.proofs.Common.{◌≡◌, ℕ, ◌+◌, ◌-◌, ◌*◌, ◌^◌, ◌<◌, ◌≤◌, List, [], ◌∷◌, length, take, drop, get_or, Bool, true, false, ap, sym, ◌∙◌, refl, arith, FitsSigned}
use Rattle.std.proofs.lemmas.List.{drop_all, drop_more, take_all}
use Rattle.std.proofs.lemmas.Int.{ints}
use Rattle.std.specs.Prelude.{Option, Some, None, ℤ, pos, nat_abs, fold, ◌+ℤ◌, ◌-ℤ◌, ◌*ℤ◌, if◌then◌else◌}
use Rattle.std.specs.Int.{w64, w128}
use Rattle.base.specs.Widths.{long_limit}
use Rattle.term_tree.specs.Constants.{is_short}
use Rattle.term_tree.specs.Operators.{difference_of, on_two}
use Rattle.term_tables.specs.machinery.Table.{product_from, short_integer, signed_sum}

pub fold_on : (f : ℤ → ℤ → ℤ) (a n : ℤ) (ns : List ℤ) (i : ℕ) → i < length ns → n ≡ get_or ns i (pos 0) → fold f (f a n) (drop (i + 1) ns) ≡ fold f a (drop i ns)
fold_on f a n ns i less is = ap (λ (k : ℤ). fold f (f a k) (drop (i + 1) ns)) is ∙ sym (ap (fold f a) (drop_more ns i (pos 0) less))

pub fold_end : (f : ℤ → ℤ → ℤ) (a : ℤ) (ns : List ℤ) (i : ℕ) → length ns ≤ i → a ≡ fold f a (drop i ns)
fold_end f a ns i over = sym (ap (fold f a) (drop_all i ns over))

-- numbers of 64 bits have room in 128
pub more_sum : (a n : ℤ) (i : ℕ) → nat_abs a ≤ i * 2 ^ 63 → FitsSigned w64 n → nat_abs (a +ℤ n) ≤ (i + 1) * 2 ^ 63
more_sum a n i small fits = omega (arith, ints, small, fits)

pub more_difference : (a n : ℤ) (i : ℕ) → nat_abs a ≤ i * 2 ^ 63 → FitsSigned w64 n → nat_abs (a -ℤ n) ≤ (i + 1) * 2 ^ 63
more_difference a n i small fits = omega (arith, ints, small, fits)

pub room_for : (a : ℤ) (i : ℕ) → nat_abs a ≤ i * 2 ^ 63 → i < 2 ^ 63 + 2 → FitsSigned w128 a
room_for a i small less = omega (arith, ints, small, less)

pub denied_fits : (n : ℤ) → FitsSigned w64 n → FitsSigned w128 (pos 0 -ℤ n)
denied_fits n fits = omega (arith, ints, fits)

pub long_fits : (n : ℤ) → FitsSigned w64 n → nat_abs n < long_limit
long_fits n fits = omega (arith, ints, fits)

pub difference_one : (ns : List ℤ) → 1 ≤ length ns → length ns < 2 → pos 0 -ℤ get_or ns 0 (pos 0) ≡ difference_of ns
difference_one [] some less = absurd (omega arith)
difference_one (n ∷ []) some less = omega (arith, ints)
difference_one (n ∷ m ∷ ns) some less = absurd (omega arith)

pub difference_more : (ns : List ℤ) → 2 ≤ length ns → signed_sum (get_or ns 0 (pos 0)) (take (length ns - 1) (drop 1 ns)) ≡ difference_of ns
difference_more [] some = absurd (omega arith)
difference_more (n ∷ []) some = absurd (omega arith)
difference_more (n ∷ m ∷ ns) some = ap (signed_sum n) (take_all (length (n ∷ m ∷ ns) - 1) (m ∷ ns) (omega arith))

pub two_at : (f : ℤ → ℤ → ℤ) (ns : List ℤ) → 2 ≤ length ns → f (get_or ns 0 (pos 0)) (get_or ns 1 (pos 0)) ≡ on_two f ns
two_at f [] some = absurd (omega arith)
two_at f (n ∷ []) some = absurd (omega arith)
two_at f (n ∷ m ∷ ns) some = refl

on_by : (b : Bool) (m more : ℤ) (rest : List ℤ) → (if b then Some m else None) ≡ Some more → (if b then product_from m rest else None) ≡ product_from more rest
on_by true m more rest is = let same : m ≡ more = cc in ap (λ (k : ℤ). product_from k rest) same
on_by false m more rest is = absurd (cc)

off_by : (b : Bool) (m : ℤ) (rest : List ℤ) → (let r : Option ℤ = if b then Some m else None in r) ≡ None → (if b then product_from m rest else None) ≡ None
off_by true m rest is = absurd (cc)
off_by false m rest is = refl

pub product_on : (a more : ℤ) (ns : List ℤ) (i : ℕ) → i < length ns → short_integer (a *ℤ get_or ns i (pos 0)) ≡ Some more → product_from more (drop (i + 1) ns) ≡ product_from a (drop i ns)
product_on a more ns i less short =
    let m : ℤ = a *ℤ get_or ns i (pos 0) in
    sym (ap (product_from a) (drop_more ns i (pos 0) less) ∙ on_by (is_short m) m more (drop (i + 1) ns) short)

pub product_off : (a : ℤ) (ns : List ℤ) (i : ℕ) → i < length ns → short_integer (a *ℤ get_or ns i (pos 0)) ≡ None → None ≡ product_from a (drop i ns)
product_off a ns i less short =
    let m : ℤ = a *ℤ get_or ns i (pos 0) in
    sym (ap (product_from a) (drop_more ns i (pos 0) less) ∙ off_by (is_short m) m (drop (i + 1) ns) short)

pub product_end : (a : ℤ) (ns : List ℤ) (i : ℕ) → length ns ≤ i → Some a ≡ product_from a (drop i ns)
product_end a ns i over = sym (ap (product_from a) (drop_all i ns over))
