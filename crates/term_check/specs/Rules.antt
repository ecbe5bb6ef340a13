-- What an application owes to its arguments, rule by rule in the order of checking: their number, their sorts, that products
-- and divisions are linear, that no divisor is 0, and that constants are short (SMT-LIB 2.6, section 3.6, with the theories
-- Core and Ints; linear terms as in the logics LIA).
use Rattle.std.specs.Prelude.{ℕ, ◌+◌, List, [], ◌∷◌, map, fold, Bool, true, false, ◌&&◌, nat_lt, nat_eq, Option, None, Some, Result, Ok, Err, ℤ, pos, ◌*ℤ◌, nat_abs, if◌then◌else◌}
use Rattle.std.specs.Int.{int_div_euclid, int_rem_euclid}
use Rattle.std.specs.Ordering.{int_eq}
pub use Rattle.base.specs.Limits.{most_distinct}
pub use Rattle.base.specs.Widths.{is_short}
use Rattle.base.specs.Widths.{short_limit}
use Rattle.term_tree.specs.declared.node.OpKind.{OpKind}
use Rattle.term_tree.specs.declared.node.OpKind.TheVariants.{Add, Sub, Abs, Div, Mod}
use Rattle.term_tree.specs.declared.sort.Sort.{Sort}
use Rattle.term_tree.specs.declared.sort.Sort.TheVariants.{Int as IntSort, Bool as BoolSort}
use Rattle.term_tree.specs.declared.refusal.Kind.{Kind}
use Rattle.term_tree.specs.declared.refusal.Kind.TheVariants.{Arity, Count, SortMismatch, NotLinear, ZeroDivisor, TooWide}
use Rattle.term_tree.specs.Constants.{is_arithmetic}
use Rattle.term_tree.specs.Operators.{sum_of, difference_of, on_two, first_of_all, is_distinct}
use Rattle.term_tree.specs.Sorts.{same_sort}
use Rattle.term_check.specs.declared.operators.Sorts.{Sorts}
use Rattle.term_check.specs.declared.operators.Sorts.TheVariants.{Bools, Ints, Alike, Choice}
use Rattle.term_check.specs.declared.part.Part.{Part}
use Rattle.term_check.specs.declared.part.Fault.{Fault}
use Rattle.term_check.specs.Operators.{least_operands, most_operands, wanted, is_division, is_product, is_choice}

-- a rule that is broken, by its kind and the offset in the text
abbrev pub fault : Kind → ℕ → Fault
fault kind offset = record { kind = kind; offset = offset }

-- the fault of an earlier rule, else what the later rules give
abbrev pub unless : {A : Type 0} → Option Fault → Result A Fault → Result A Fault
unless None later = later
unless (Some f) later = Err f

-- the fault of an earlier rule, else that of a later one
abbrev pub first_fault : Option Fault → Option Fault → Option Fault
first_fault None later = later
first_fault (Some f) later = Some f

-- The number of arguments.

-- there are more than the most; never where any number is allowed
abbrev pub is_above : Option ℕ → ℕ → Bool
is_above None n = false
is_above (Some most) n = nat_lt most n

-- too few or too many arguments for an operator (Arity), or more than the limit for distinct (Count), else none
abbrev pub number_fault : OpKind → ℕ → ℕ → Option Fault
number_fault op start n =
    if nat_lt n (least_operands op) then Some (fault Arity start)
    else if is_above (most_operands op) n then Some (fault Arity start)
    else if is_distinct op && nat_lt most_distinct n then Some (fault Count start)
    else None

-- The sorts of arguments. The fault is at the first argument that is wrong.

-- the first argument that is not of the sort, else none
abbrev pub first_not : Sort → List Part → Option Fault
first_not sort [] = None
first_not sort (p ∷ ps) = if same_sort p.sort sort then first_not sort ps else Some (fault SortMismatch p.start)

-- the first whose sort isn't that of the first of all
abbrev pub first_unlike : List Part → Option Fault
first_unlike [] = None
first_unlike (p ∷ ps) = first_not p.sort ps

-- of ite, a condition that is not Bool, else a third argument that is not of the sort of the second, else none
abbrev pub choice_fault : List Part → Option Fault
choice_fault [] = None
choice_fault (c ∷ ps) = if same_sort c.sort BoolSort then first_unlike ps else Some (fault SortMismatch c.start)

-- the first argument that is not of a sort that the operator takes there, else none
abbrev pub sort_fault : Sorts → List Part → Option Fault
sort_fault Bools ps = first_not BoolSort ps
sort_fault Ints ps = first_not IntSort ps
sort_fault Alike ps = first_unlike ps
sort_fault Choice ps = choice_fault ps

-- the sort of the second argument, of ite
abbrev pub second_sort : List Part → Sort
second_sort (c ∷ p ∷ ps) = p.sort
second_sort _ = BoolSort

-- the sort of an operator's value at these arguments: of ite that of the second one, of + - * abs div mod Int, of others Bool
abbrev pub result_sort : OpKind → List Part → Sort
result_sort op ps = if is_choice op then second_sort ps else if is_arithmetic op then IntSort else BoolSort

-- Linearity, and divisors.

-- there is a value, so the part is a constant
abbrev pub is_constant : Option ℤ → Bool
is_constant None = false
is_constant (Some k) = true

-- how many parts are no constants
abbrev pub varying : List Part → ℕ
varying [] = 0
varying (p ∷ ps) = if is_constant p.constant then varying ps else varying ps + 1

-- a divisor that is no constant (NotLinear) or is 0 (ZeroDivisor), else none
abbrev pub divisor_fault_by : ℕ → Option ℤ → Option Fault
divisor_fault_by start None = Some (fault NotLinear start)
divisor_fault_by start (Some k) = if int_eq k (pos 0) then Some (fault ZeroDivisor start) else None

-- the fault of the second argument of div or mod, at the start of the application, else none
abbrev pub divisor_fault : ℕ → List Part → Option Fault
divisor_fault start (m ∷ d ∷ ps) = divisor_fault_by start d.constant
divisor_fault start _ = None

-- a product of which two factors or more are no constants, which is not linear, else none
abbrev pub product_fault : ℕ → List Part → Option Fault
product_fault start ps = if nat_lt 1 (varying ps) then Some (fault NotLinear start) else None

-- a product or division that is not linear, or a divisor that is 0, else none; other operators have no such fault
abbrev pub linear_fault : OpKind → ℕ → List Part → Option Fault
linear_fault op start ps = if is_product op then product_fault start ps else if is_division op then divisor_fault start ps else None

-- Constants. An application of an operator of arithmetic to constants is one, and its value lies strictly between
-- -2 ^ 63 and 2 ^ 63; so does each product of the first constant factors of a product, whose other factor may vary.

-- the integer, if it lies strictly between -2 ^ 63 and 2 ^ 63
abbrev pub if_short : ℤ → Option ℤ
if_short k = if is_short k then Some k else None

-- a product of constants and one more part of it, unless it is wide; what is no constant is left out
abbrev pub multiplied : Option ℤ → Option ℤ → Option ℤ
multiplied None factor = None
multiplied (Some k) None = Some k
multiplied (Some k) (Some m) = if_short (k *ℤ m)

-- the product of the factors that are constants, if it is short, and so is each product of the first of them
abbrev pub product_if_short : List Part → Option ℤ
product_if_short ps = fold multiplied (Some (pos 1)) (map (λ p. p.constant) ps)

-- the value of a constant; of other parts it is not asked for
abbrev pub worth_of : Option ℤ → ℤ
worth_of None = pos 0
worth_of (Some k) = k

-- the value of a part that is a constant; 0 of others, of which it is not asked for
abbrev pub worth : Part → ℤ
worth p = worth_of p.constant

-- div and mod; a divisor is not 0 here
abbrev pub quotient : ℤ → ℤ → ℤ
quotient m d = if int_eq d (pos 0) then pos 0 else int_div_euclid m d

-- what mod gives, from 0 to below the divisor's magnitude; 0 where the divisor is 0, which it is not here
abbrev pub remainder : ℤ → ℤ → ℤ
remainder m d = if int_eq d (pos 0) then pos 0 else int_rem_euclid m d

-- the value of + - abs div mod at constants; 0 of other operators, of which it is not asked for
abbrev pub value_at : OpKind → List ℤ → ℤ
value_at Add ks = sum_of ks
value_at Sub ks = difference_of ks
value_at Abs ks = pos (nat_abs (first_of_all ks))
value_at Div ks = on_two quotient ks
value_at Mod ks = on_two remainder ks
value_at _ ks = pos 0

-- the value of a constant; where there is none, the term that starts here is too wide
abbrev pub wide_unless : ℕ → Option ℤ → Result (Option ℤ) Fault
wide_unless start None = Err (fault TooWide start)
wide_unless start (Some k) = Ok (Some k)

-- none, once the constant factors are known to have a short product
abbrev pub without_value : Result (Option ℤ) Fault → Result (Option ℤ) Fault
without_value (Ok k) = Ok None
without_value (Err f) = Err f

-- a product's value, none where a factor is no constant; too wide where the constants among its factors have no short product
abbrev pub product_constant : ℕ → List Part → Result (Option ℤ) Fault
product_constant start ps = let product = wide_unless start (product_if_short ps) in if nat_eq (varying ps) 0 then product else without_value product

-- the value of an application that is a constant, none where it is not one; too wide where a value is not short
abbrev pub operator_constant : OpKind → ℕ → List Part → Result (Option ℤ) Fault
operator_constant op start ps =
    if is_product op then product_constant start ps
    else if is_arithmetic op && nat_eq (varying ps) 0 then wide_unless start (if_short (value_at op (map worth ps)))
    else Ok None

-- what a term is to the term around it, by its start, its sort and the value that it has as a constant, or its fault
abbrev pub part_of : ℕ → Sort → Result (Option ℤ) Fault → Result Part Fault
part_of start sort (Ok constant) = Ok (record { start = start; sort = sort; constant = constant })
part_of start sort (Err f) = Err f

-- an operator at its arguments, whose number is right
abbrev pub applied : OpKind → ℕ → List Part → Result Part Fault
applied op start ps =
    unless (sort_fault (wanted op) ps) (unless (linear_fault op start ps) (part_of start (result_sort op ps) (operator_constant op start ps)))

-- the n of (_ divisible n) is 0 (ZeroDivisor), or it is not known or is 2 ^ 63 or more (TooWide), else none
abbrev pub divisibility_fault : ℕ → Option ℕ → Option Fault
divisibility_fault start None = Some (fault TooWide start)
divisibility_fault start (Some n) = if nat_eq n 0 then Some (fault ZeroDivisor start) else if nat_lt n short_limit then None else Some (fault TooWide start)

-- (_ divisible n) at its argument, where n is known if it is below 2 ^ 63
abbrev pub divisible_fault : Option ℕ → ℕ → List Part → Option Fault
divisible_fault by start ps = first_fault (first_not IntSort ps) (divisibility_fault start by)

-- a predicate at its arguments, as many as it was declared with: the first argument that is not of the declared sort
abbrev pub declared_fault : List Sort → List Part → Option Fault
declared_fault (s ∷ sorts) (p ∷ ps) = if same_sort p.sort s then declared_fault sorts ps else Some (fault SortMismatch p.start)
declared_fault _ _ = None
