-- Operators at parts of the sorts that they want are well sorted.
use Rattle.std.proofs.Common.{◌≡◌, ℕ, ◌≤◌, List, [], ◌∷◌, length, Bool, true, false, ◌&&◌, refl, ap, arith}
use Rattle.std.proofs.lemmas.List.{length-map}
use Rattle.std.specs.Prelude.{Option, Some, None, nat_lt, nat_le, map}
use Rattle.std.specs.List.{list_all}
use Rattle.term_tree.specs.declared.sort.Sort.{Sort}
use Rattle.term_tree.specs.declared.sort.Sort.TheVariants.{Int as IntSort, Bool as BoolSort}
use Rattle.term_tree.specs.declared.node.OpKind.{OpKind}
use Rattle.term_tree.specs.declared.node.OpKind.TheVariants.{Not, And, Or, Xor, Implies, Eq, Distinct, Ite, Add, Mul, Sub, Abs, Div, Mod, Le, Lt, Ge, Gt}
use Rattle.term_tree.specs.Sorts.{same_sort, has_sort, have_sorts, are_alike, sort_if, all_of, choice_sort, operation_sort}
use Rattle.term_tree.specs.Operators.{is_distinct}
use Rattle.term_check.specs.declared.part.Part.{Part}
use Rattle.term_check.specs.Operators.{least_operands, most_operands, wanted}
use Rattle.term_check.specs.Rules.{is_above, most_distinct, number_fault, first_not, first_unlike, choice_fault, sort_fault, result_sort, declared_fault}
use Rattle.term_check.proofs.OutcomeLemmas.{both_are, if_none, not_if, not_below, up_to}

-- the sorts of parts
abbrev pub given : List Part → List (Option Sort)
given ps = map (λ (p : Part). Some p.sort) ps

pub equal_sorts : (s t : Sort) → same_sort s t ≡ true → s ≡ t
equal_sorts IntSort IntSort h = refl
equal_sorts BoolSort BoolSort h = refl
equal_sorts IntSort BoolSort h = absurd (cc)
equal_sorts BoolSort IntSort h = absurd (cc)

pub sort_is : (s t : Sort) → same_sort s t ≡ true → same_sort t s ≡ true
sort_is IntSort IntSort h = refl
sort_is BoolSort BoolSort h = refl
sort_is IntSort BoolSort h = absurd (cc)
sort_is BoolSort IntSort h = absurd (cc)

pub all_have : (s : Sort) (ps : List Part) → first_not s ps ≡ None → list_all (has_sort s) (given ps) ≡ true
all_have s [] h = refl
all_have s (p ∷ ps) h =
    let b = if_none (same_sort p.sort s) (first_not s ps) _ h in
    both_are (same_sort s p.sort) (list_all (has_sort s) (given ps)) (sort_is p.sort s b.0) (all_have s ps b.1)

all_alike : (ps : List Part) → first_unlike ps ≡ None → are_alike (given ps) ≡ true
all_alike [] h = refl
all_alike (p ∷ ps) h = all_have p.sort ps h

-- what the rule of numbers lets through
pub right_number : (op : OpKind) (start n : ℕ) → number_fault op start n ≡ None
    → (least_operands op ≤ n) × (is_above (most_operands op) n ≡ false) × ((is_distinct op && nat_lt most_distinct n) ≡ false)
right_number op start n h =
    let least = not_if (nat_lt n (least_operands op)) _ _ h in
    let most = not_if (is_above (most_operands op) n) _ _ least.1 in
    let few = not_if (is_distinct op && nat_lt most_distinct n) _ _ most.1 in
    (not_below n (least_operands op) least.0, most.0, few.0)

enough : (s : Sort) (least : ℕ) (ps : List Part) → least ≤ length ps → first_not s ps ≡ None → all_of s least (given ps) ≡ true
enough s least ps n h =
    both_are (nat_le least (length (given ps))) (list_all (has_sort s) (given ps))
    (up_to least (length (given ps)) (omega (arith, length-map ps (λ (p : Part). Some p.sort)))) (all_have s ps h)

one : (s : Sort) (ps : List Part) → 1 ≤ length ps → nat_lt 1 (length ps) ≡ false → first_not s ps ≡ None → have_sorts (s ∷ []) (given ps) ≡ true
one s [] least most h = absurd (omega (arith, least))
one s (p ∷ []) least most h = all_have s (p ∷ []) h
one s (p ∷ q ∷ ps) least most h = absurd (omega (arith, not_below 1 (length (p ∷ q ∷ ps)) most))

two : (s : Sort) (ps : List Part) → 2 ≤ length ps → nat_lt 2 (length ps) ≡ false → first_not s ps ≡ None → have_sorts (s ∷ s ∷ []) (given ps) ≡ true
two s [] least most h = absurd (omega (arith, least))
two s (p ∷ []) least most h = absurd (omega (arith, least))
two s (p ∷ q ∷ []) least most h = all_have s (p ∷ q ∷ []) h
two s (p ∷ q ∷ r ∷ ps) least most h = absurd (omega (arith, not_below 2 (length (p ∷ q ∷ r ∷ ps)) most))

choice : (c s t : Sort) → same_sort c BoolSort ≡ true → same_sort t s ≡ true → choice_sort (Some c ∷ Some s ∷ Some t ∷ []) ≡ Some s
choice IntSort s t h k = absurd (cc)
choice BoolSort s t h k = ap (λ b. sort_if b s) (sort_is t s k)

chosen : (ps : List Part) → 3 ≤ length ps → nat_lt 3 (length ps) ≡ false → choice_fault ps ≡ None → choice_sort (given ps) ≡ Some (result_sort Ite ps)
chosen [] least most h = absurd (omega (arith, least))
chosen (c ∷ []) least most h = absurd (omega (arith, least))
chosen (c ∷ p ∷ []) least most h = absurd (omega (arith, least))
chosen (c ∷ p ∷ q ∷ []) least most h =
    let condition = if_none (same_sort c.sort BoolSort) _ _ h in
    choice c.sort p.sort q.sort condition.0 (if_none (same_sort q.sort p.sort) _ _ condition.1).0
chosen (c ∷ p ∷ q ∷ r ∷ ps) least most h = absurd (omega (arith, not_below 3 (length (c ∷ p ∷ q ∷ r ∷ ps)) most))

of_sort : (b : Bool) (s : Sort) → b ≡ true → sort_if b s ≡ Some s
of_sort b s h = ap (λ c. sort_if c s) h

at_least_two : (ps : List Part) → 2 ≤ length ps → nat_le 2 (length (given ps)) ≡ true
at_least_two ps h = up_to 2 (length (given ps)) (omega (arith, length-map ps (λ (p : Part). Some p.sort)))

at_most_64 : (ps : List Part) → nat_lt most_distinct (length ps) ≡ false → nat_le (length (given ps)) 64 ≡ true
at_most_64 ps h = up_to (length (given ps)) 64 (omega (arith, length-map ps (λ (p : Part). Some p.sort), not_below 64 (length ps) h))

pub operation_sorted : (op : OpKind) (start : ℕ) (ps : List Part) → number_fault op start (length ps) ≡ None → sort_fault (wanted op) ps ≡ None
    → operation_sort op (given ps) ≡ Some (result_sort op ps)
operation_sorted Not start ps n h = let r = right_number Not start (length ps) n in of_sort _ BoolSort (one BoolSort ps r.0 r.1 h)
operation_sorted And start ps n h = of_sort _ BoolSort (enough BoolSort 1 ps (right_number And start (length ps) n).0 h)
operation_sorted Or start ps n h = of_sort _ BoolSort (enough BoolSort 1 ps (right_number Or start (length ps) n).0 h)
operation_sorted Xor start ps n h = of_sort _ BoolSort (enough BoolSort 2 ps (right_number Xor start (length ps) n).0 h)
operation_sorted Implies start ps n h = of_sort _ BoolSort (enough BoolSort 2 ps (right_number Implies start (length ps) n).0 h)
operation_sorted Eq start ps n h = of_sort _ BoolSort (both_are _ _ (at_least_two ps (right_number Eq start (length ps) n).0) (all_alike ps h))
operation_sorted Distinct start ps n h =
    let r = right_number Distinct start (length ps) n in
    of_sort _ BoolSort (both_are _ _ (at_least_two ps r.0) (both_are _ _ (at_most_64 ps r.2) (all_alike ps h)))
operation_sorted Ite start ps n h = let r = right_number Ite start (length ps) n in chosen ps r.0 r.1 h
operation_sorted Add start ps n h = of_sort _ IntSort (enough IntSort 1 ps (right_number Add start (length ps) n).0 h)
operation_sorted Mul start ps n h = of_sort _ IntSort (enough IntSort 1 ps (right_number Mul start (length ps) n).0 h)
operation_sorted Sub start ps n h = of_sort _ IntSort (enough IntSort 1 ps (right_number Sub start (length ps) n).0 h)
operation_sorted Abs start ps n h = let r = right_number Abs start (length ps) n in of_sort _ IntSort (one IntSort ps r.0 r.1 h)
operation_sorted Div start ps n h = let r = right_number Div start (length ps) n in of_sort _ IntSort (two IntSort ps r.0 r.1 h)
operation_sorted Mod start ps n h = let r = right_number Mod start (length ps) n in of_sort _ IntSort (two IntSort ps r.0 r.1 h)
operation_sorted Le start ps n h = of_sort _ BoolSort (enough IntSort 2 ps (right_number Le start (length ps) n).0 h)
operation_sorted Lt start ps n h = of_sort _ BoolSort (enough IntSort 2 ps (right_number Lt start (length ps) n).0 h)
operation_sorted Ge start ps n h = of_sort _ BoolSort (enough IntSort 2 ps (right_number Ge start (length ps) n).0 h)
operation_sorted Gt start ps n h = of_sort _ BoolSort (enough IntSort 2 ps (right_number Gt start (length ps) n).0 h)

-- a predicate at parts of its declared sorts, as many as it has
pub declared_sorted : (sorts : List Sort) (ps : List Part) → length ps ≡ length sorts → declared_fault sorts ps ≡ None → have_sorts sorts (given ps) ≡ true
declared_sorted [] [] n h = refl
declared_sorted [] (p ∷ ps) n h = absurd (omega (arith, n))
declared_sorted (s ∷ sorts) [] n h = absurd (omega (arith, n))
declared_sorted (s ∷ sorts) (p ∷ ps) n h =
    let b = if_none (same_sort p.sort s) (declared_fault sorts ps) _ h in
    both_are (same_sort s p.sort) (have_sorts sorts (given ps)) (sort_is p.sort s b.0) (declared_sorted sorts ps (omega (arith, n)) b.1)
