-- A live obligation has a live child exactly where it isn't among the leaves.
use Rattle.std.proofs.Common.{◌≡◌, ℕ, ◌<◌, ◌≤◌, List, length, get_or, filter, Bool, true, false, not, ◌&&◌, ◌==◌, refl, ap, sym, ◌∙◌, subst, arith, ⊎_elim, Result, MatchResult}
use Rattle.std.specs.Prelude.{nat_lt}
use Rattle.std.specs.List.{range_with_len}
use Rattle.std.specs.List.Sorted.{IsStrictlyIncreasing}
use Rattle.std.proofs.lemmas.Bool.{cases_lt, eqb-true, eq-eqb, ne_eqb, false≢true}
use Rattle.std.proofs.lemmas.List.Folds.{list_any-from_Any, list_any_none}
use Rattle.std.proofs.lemmas.List.FromFn.{get_or-range_with_len, length-range_with_len}
use Rattle.std.proofs.lemmas.List.Kept.{AllPairs-from_increasing}
use Rattle.std.proofs.lemmas.List.{get_or_default}
use Rattle.std.proofs.lemmas.Map.Views.{any-filter_same}
use Rattle.obligation_tree.specs.Nodes.{has_live_child, is_child_of, is_live_at, leaf_numbers, live_numbers, parent_at}
use Rattle.obligation_tree.specs.Shape.{IsTree}
use Rattle.obligation_tree.specs.machinery.Passes.{is_among}
use Rattle.obligation_tree.specs.declared.node.Node.{Node}
use Rattle.obligation_tree.proofs.NumberLemmas.{any-filter, any-never, any-same}

among-kept : (p : ℕ → Bool) (i : ℕ) (xs : List ℕ) → is_among i (filter p xs) ≡ (p i && is_among i xs)
among-kept p i xs = any-filter_same (λ n. n == i) p (p i) (λ n same. ap p (eqb-true n i same)) xs

among-range : (i n : ℕ) → i < n → is_among i (range_with_len 0 n) ≡ true
among-range i n below =
    let at : get_or (range_with_len 0 n) i i ≡ i = get_or-range_with_len 0 n i i below ∙ omega arith in
    let long = length-range_with_len 0 n in
    list_any-from_Any (λ m. m == i) (range_with_len 0 n) (i, i, omega (arith, long), at, eq-eqb i i refl)

-- what is closed has no live child
childless : (xs : List Node) (i : ℕ) → IsTree xs → is_live_at xs i ≡ false → has_live_child xs i ≡ false
childless xs i tree closed =
    any-filter (is_child_of xs i) (is_live_at xs) (range_with_len 0 (length xs))
    ∙ any-same (λ c. is_live_at xs c && is_child_of xs i c) (λ c. false) (range_with_len 0 (length xs)) (λ c. never c (is_live_at xs c) refl (parent_at xs c == i) refl)
    ∙ any-never (range_with_len 0 (length xs)) where
      never : (c : ℕ) (l : Bool) → is_live_at xs c ≡ l → (p : Bool) → (parent_at xs c == i) ≡ p → (l && (nat_lt 0 c && p)) ≡ false
      never c false is p same = refl
      never c true is true same = absurd (false≢true (sym closed ∙ ap (λ k. is_live_at xs k) (sym (eqb-true (parent_at xs c) i same)) ∙ tree.hung c is))
      never c true is false same = and_false (nat_lt 0 c) where
        and_false : (b : Bool) → (b && false) ≡ false
        and_false true = refl
        and_false false = refl

told : (h l : Bool) → (l ≡ false → h ≡ false) → h ≡ (l && not (not h && (l && true)))
told true true none = refl
told false true none = refl
told true false none = none refl
told false false none = refl

pub child-told : (xs : List Node) (i : ℕ) → IsTree xs → i < length xs → has_live_child xs i ≡ (is_live_at xs i && not (is_among i (leaf_numbers xs)))
child-told xs i tree within =
    let leaf : is_among i (leaf_numbers xs) ≡ (not (has_live_child xs i) && (is_live_at xs i && true)) =
    among-kept (λ n. not (has_live_child xs n)) i (live_numbers xs)
    ∙ ap (λ b. not (has_live_child xs i) && b) (among-kept (is_live_at xs) i (range_with_len 0 (length xs)) ∙ ap (λ b. is_live_at xs i && b) (among-range i (length xs) within)) in
    told (has_live_child xs i) (is_live_at xs i) (childless xs i tree) ∙ ap (λ b. is_live_at xs i && not b) (sym leaf)

-- numbers that ascend don't fall
pub ascends : (xs : List ℕ) → IsStrictlyIncreasing xs → (i j : ℕ) → i ≤ j → j < length xs → get_or xs i 0 ≤ get_or xs j 0
ascends xs rises i j le within = ⊎_elim below same (cases_lt i j) where
  below : i < j → get_or xs i 0 ≤ get_or xs j 0
  below lt = (let less : get_or xs i 0 < get_or xs j 0 = AllPairs-from_increasing xs rises i j 0 lt within in omega (arith, less))

  same : j ≤ i → get_or xs i 0 ≤ get_or xs j 0
  same ge = (let is : i ≡ j = omega (arith, le, ge) in subst (λ k. get_or xs i 0 ≤ get_or xs k 0) is (omega arith))

-- what a search in ascending numbers finds
abbrev pub IsFound : List ℕ → ℕ → Result ℕ ℕ → Type 0
IsFound xs x r = MatchResult r (λ i. (i < length xs) × (get_or xs i 0 ≡ x)) (λ i. (i ≤ length xs) × ((k : ℕ) → k < i → get_or xs k 0 < x) × ((k : ℕ) → i ≤ k → k < length xs → x < get_or xs k 0))

pub among-found : (xs : List ℕ) (x i : ℕ) → i < length xs → get_or xs i 0 ≡ x → is_among x xs ≡ true
among-found xs x i within at = list_any-from_Any (λ n. n == x) xs (i, x, within, get_or_default xs i x 0 within ∙ at, eq-eqb x x refl)

pub among-missed : (xs : List ℕ) (x i : ℕ) → ((k : ℕ) → k < i → get_or xs k 0 < x) → ((k : ℕ) → i ≤ k → k < length xs → x < get_or xs k 0) → is_among x xs ≡ false
among-missed xs x i low high = list_any_none (λ n. n == x) xs (λ k d within. ne_eqb (get_or xs k d) x (λ same. apart k (get_or_default xs k 0 d within ∙ same) within)) where
  apart : (k : ℕ) → get_or xs k 0 ≡ x → k < length xs → ⊥
  apart k same within = ⊎_elim (λ lt. let less = low k lt in absurd (omega (arith, less, same))) (λ ge. let more = high k ge within in absurd (omega (arith, more, same))) (cases_lt k i)
