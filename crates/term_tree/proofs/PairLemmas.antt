-- Sets of pairs, seen through the tests that all of them pass.
use Rattle.std.proofs.Common.{◌≡◌, ℕ, zero, suc, ◌+◌, ◌<◌, ◌==◌, List, [], ◌∷◌, length, take, get_or, Bool, true, false, ◌&&◌, ◌||◌, refl, ap, sym, ◌∙◌, arith, cond, Ordering, Less, Equal, Greater}
use Rattle.std.proofs.lemmas.List.Sums.{list_all-from_AllPass}
use Rattle.std.specs.Prelude.{nat_lt}
use Rattle.std.specs.List.{All, list_all}
use Rattle.std.specs.Ordering.{nat_cmp, ordering_then, match_ordering}
use Rattle.std.specs.BTreeMap.Range.{IsLtBy}
use Rattle.std.specs.BTreeSet.{insert_key}
use Rattle.term_tree.specs.declared.node.TermId.{TermId}
use Rattle.term_tree.specs.machinery.Pairs.{is_before}
use Rattle.term_tree.specs.Same.{same_parts}
use Rattle.term_tree.proofs.PlainLemmas.{same_number}

-- the order of pairs of numbers
abbrev pub pair_cmp : ℕ × ℕ → ℕ × ℕ → Ordering
pair_cmp x y = ordering_then (nat_cmp x.0 y.0) (nat_cmp x.1 y.1)

less_is : (m n : Bool) (k l : Bool) → ordering_then (cond m Less (cond n Equal Greater)) (cond k Less (cond l Equal Greater)) ≡ Less → (m || (n && k)) ≡ true
less_is true n k l h = refl
less_is false true true l h = refl
less_is false true false true h = absurd (cc)
less_is false true false false h = absurd (cc)
less_is false false k l h = absurd (cc)

-- what is less by the order is before
pub all_before : (pair : ℕ × ℕ) (pairs : List (ℕ × ℕ)) → All (λ (q : ℕ × ℕ). IsLtBy pair_cmp q pair) pairs → list_all (is_before pair) pairs ≡ true
all_before pair pairs all = list_all-from_AllPass (is_before pair) pairs
    (λ k d lt. less_is (nat_lt (get_or pairs k d).0 pair.0) ((get_or pairs k d).0 == pair.0) (nat_lt (get_or pairs k d).1 pair.1) ((get_or pairs k d).1 == pair.1) (all k d lt))

equal_is : (m n k l : Bool) → ordering_then (cond m Less (cond n Equal Greater)) (cond k Less (cond l Equal Greater)) ≡ Equal → (n ≡ true) × (l ≡ true)
equal_is true n k l h = absurd (cc)
equal_is false true true l h = absurd (cc)
equal_is false true false true h = (refl, refl)
equal_is false true false false h = absurd (cc)
equal_is false false k l h = absurd (cc)

-- pairs that the order can't tell apart are one
pair_is : (test : ℕ × ℕ → Bool) (x y : ℕ × ℕ) → pair_cmp x y ≡ Equal → test x ≡ test y
pair_is test x y h =
    let e = equal_is (nat_lt x.0 y.0) (x.0 == y.0) (nat_lt x.1 y.1) (x.1 == y.1) h in
    ap (λ (i : ℕ). test (i, x.1)) (same_number x.0 y.0 e.0) ∙ ap (λ (j : ℕ). test (y.0, j)) (same_number x.1 y.1 e.1)

turned : (a b c : Bool) → (a && (b && c)) ≡ ((a && b) && c)
turned true b c = refl
turned false b c = refl

swapped : (a b : Bool) → (a && b) ≡ (b && a)
swapped true true = refl
swapped true false = refl
swapped false true = refl
swapped false false = refl

again : (a b : Bool) → (a && b) ≡ ((a && b) && a)
again true true = refl
again true false = refl
again false b = refl

-- all pairs with a new one
pub all_inserted : (test : ℕ × ℕ → Bool) (pairs : List (ℕ × ℕ)) (pair : ℕ × ℕ) → list_all test (insert_key pair_cmp pairs pair) ≡ (list_all test pairs && test pair)
all_inserted test [] pair = swapped (test pair) true
all_inserted test (x ∷ pairs) pair = by_order (all_inserted test pairs pair) (pair_cmp pair x) refl
  where
    by_order : list_all test (insert_key pair_cmp pairs pair) ≡ (list_all test pairs && test pair) → (o : Ordering) → pair_cmp pair x ≡ o
        → list_all test (match_ordering o (pair ∷ x ∷ pairs) (x ∷ pairs) (x ∷ insert_key pair_cmp pairs pair)) ≡ ((test x && list_all test pairs) && test pair)
    by_order rest Less e = swapped (test pair) (test x && list_all test pairs)
    by_order rest Equal e = again (test x) (list_all test pairs) ∙ ap (λ (b : Bool). (test x && list_all test pairs) && b) (sym (pair_is test pair x e))
    by_order rest Greater e = ap (λ (b : Bool). test x && b) rest ∙ turned (test x) (list_all test pairs) (test pair)

true_right : (b : Bool) → (b && true) ≡ b
true_right true = refl
true_right false = refl

partners_more : (same : ℕ → ℕ → Bool) (xs ys : List TermId) (k : ℕ) (d e : TermId) → k < length xs → k < length ys
    → same_parts same (take (suc k) xs) (take (suc k) ys) ≡ (same_parts same (take k xs) (take k ys) && same (get_or xs k d).0 (get_or ys k e).0)
partners_more same [] ys k d e less within = absurd (omega arith)
partners_more same (x ∷ xs) [] k d e less within = absurd (omega arith)
partners_more same (x ∷ xs) (y ∷ ys) zero d e less within = true_right (same x.0 y.0)
partners_more same (x ∷ xs) (y ∷ ys) (suc k) d e less within =
    ap (λ (b : Bool). same x.0 y.0 && b) (partners_more same xs ys k d e (omega arith) (omega arith))
    ∙ turned (same x.0 y.0) (same_parts same (take k xs) (take k ys)) (same (get_or xs k d).0 (get_or ys k e).0)

-- what was put so far, and one place more on both sides
pub all_put : (test : ℕ × ℕ → Bool) (old before after : List (ℕ × ℕ)) (xs ys : List TermId) (k : ℕ) (d e : TermId) → k < length xs → k < length ys
    → list_all test before ≡ (list_all test old && same_parts (λ i j. test (i, j)) (take k xs) (take k ys))
    → list_all test after ≡ (list_all test before && test ((get_or xs k d).0, (get_or ys k e).0))
    → list_all test after ≡ (list_all test old && same_parts (λ i j. test (i, j)) (take (k + 1) xs) (take (k + 1) ys))
all_put test old before after xs ys k d e less within had put =
    let same : ℕ → ℕ → Bool = λ i j. test (i, j) in
    let more : suc k ≡ k + 1 = omega arith in
    put ∙ ap (λ (b : Bool). b && test ((get_or xs k d).0, (get_or ys k e).0)) had
    ∙ sym (turned (list_all test old) (same_parts same (take k xs) (take k ys)) (test ((get_or xs k d).0, (get_or ys k e).0)))
    ∙ ap (λ (b : Bool). list_all test old && b) (sym (partners_more same xs ys k d e less within))
    ∙ ap (λ (n : ℕ). list_all test old && same_parts same (take n xs) (take n ys)) more
