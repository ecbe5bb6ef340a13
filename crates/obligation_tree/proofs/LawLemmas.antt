-- What closing does to each obligation, said of the whole list.
use Rattle.std.proofs.Common.{◌≡◌, ℕ, suc, zero, ◌+◌, ◌<◌, ◌≤◌, List, [], ◌∷◌, ◌++◌, length, get_or, take, drop, Bool, true, false, cond, not, ◌&&◌, ◌||◌, refl, ap, sym, ◌∙◌, arith, ◌⊎◌, inl, inr, ⊎_elim}
use Rattle.std.specs.Prelude.{nat_lt}
use Rattle.std.specs.List.{range_with_len}
use Rattle.std.specs.List.Sorted.{IsStrictlyIncreasing}
use Rattle.std.proofs.lemmas.Bool.{lt-ltb, le-ltb, ltb-true, ltb-false, false≢true, and_parts, or_cases, or_parts, not-false, not-true}
use Rattle.std.proofs.lemmas.List.{get_or_at, drop_more, length-take-le, length_push, take-append-drop}
use Rattle.std.proofs.lemmas.List.FromFn.{get_or-range_with_len, length-range_with_len}
use Rattle.std.proofs.lemmas.List.Kept.{IsStrictlyIncreasing-filter}
use Rattle.obligation_tree.specs.Nodes.{absent, closed_with, has_live_child, is_live, is_live_at, leaf_numbers, live_numbers, node_at, parent_at, root}
use Rattle.obligation_tree.specs.Closing.{after_raise, closing, is_closed_at, settled}
use Rattle.obligation_tree.specs.Hanging.{HangsUnder, beneath, itself}
use Rattle.obligation_tree.specs.Shape.{IsTree}
use Rattle.obligation_tree.specs.declared.node.Node.{Node}
use Rattle.obligation_tree.proofs.ClosingLemmas.{Test, became, closing-before, closing-live, closing-tree, length-closing}
use Rattle.obligation_tree.proofs.ShapeLemmas.{live-within, root_at-live, root_at-root}

-- ---- ascending

range-ascends : (n : ℕ) → IsStrictlyIncreasing (range_with_len 0 n)
range-ascends n k within =
    let long = length-range_with_len 0 n in
    let here : get_or (range_with_len 0 n) k 0 ≡ 0 + k = get_or-range_with_len 0 n k 0 (omega (arith, long, within)) in
    let next : get_or (range_with_len 0 n) (k + 1) 0 ≡ 0 + (k + 1) = get_or-range_with_len 0 n (k + 1) 0 (omega (arith, long, within)) in
    omega (arith, here, next)

pub live-ascends : (xs : List Node) → IsStrictlyIncreasing (live_numbers xs)
live-ascends xs = IsStrictlyIncreasing-filter (is_live_at xs) (range_with_len 0 (length xs)) (range-ascends (length xs))

pub leaves-ascend : (xs : List Node) → IsStrictlyIncreasing (leaf_numbers xs)
leaves-ascend xs = IsStrictlyIncreasing-filter (λ i. not (has_live_child xs i)) (live_numbers xs) (live-ascends xs)

-- ---- one obligation

closing-append : (test : Test) (entry : ℕ) (before xs ys : List Node) → closing test entry before (xs ++ ys) ≡ closing test entry (closing test entry before xs) ys
closing-append test entry before [] ys = refl
closing-append test entry before (x ∷ xs) ys = closing-append test entry (before ++ settled test entry before x ∷ []) xs ys

long-take : (test : Test) (entry : ℕ) (xs : List Node) (i : ℕ) → i < length xs → length (closing test entry [] (take i xs)) ≡ i
long-take test entry xs i within = (let all = length-closing test entry [] (take i xs) in let part = length-take-le i xs (omega arith) in omega (arith, all, part))

-- closing, parted at a number
parted : (test : Test) (entry : ℕ) (xs : List Node) (i : ℕ) → i < length xs
    → closing test entry [] xs ≡ closing test entry (closing test entry [] (take i xs)) (node_at xs i ∷ drop (i + 1) xs)
parted test entry xs i within =
    ap (λ (ys : List Node). closing test entry [] ys) (sym (take-append-drop i xs) ∙ ap (λ (ys : List Node). take i xs ++ ys) (drop_more xs i absent within))
    ∙ closing-append test entry [] (take i xs) (node_at xs i ∷ drop (i + 1) xs)

closing-at : (test : Test) (entry : ℕ) (xs : List Node) (i : ℕ) → i < length xs → node_at (closing test entry [] xs) i ≡ settled test entry (closing test entry [] (take i xs)) (node_at xs i)
closing-at test entry xs i within =
    let before = closing test entry [] (take i xs) in
    let s = settled test entry before (node_at xs i) in
    let long = long-take test entry xs i within in
    let more : length (before ++ s ∷ []) ≡ length before + 1 = length_push before s in
    ap (λ (ys : List Node). node_at ys i) (parted test entry xs i within)
    ∙ closing-before test entry (before ++ s ∷ []) (drop (i + 1) xs) i (omega (arith, long, more))
    ∙ get_or_at before s [] absent i long

closing-parent : (test : Test) (entry : ℕ) (xs : List Node) (i p : ℕ) → i < length xs → p < i → node_at (closing test entry [] (take i xs)) p ≡ node_at (closing test entry [] xs) p
closing-parent test entry xs i p within below =
    let before = closing test entry [] (take i xs) in
    let long = long-take test entry xs i within in
    sym (ap (λ (ys : List Node). node_at ys p) (parted test entry xs i within) ∙ closing-before test entry before (node_at xs i ∷ drop (i + 1) xs) p (omega (arith, long, below)))

-- whether its parent is closed, told of the whole list
closed-told : (test : Test) (entry : ℕ) (xs : List Node) (i : ℕ) → IsTree xs → i < length xs
    → is_closed_at (closing test entry [] (take i xs)) (parent_at xs i) ≡ (nat_lt 0 i && not (is_live_at (closing test entry [] xs) (parent_at xs i)))
closed-told test entry xs zero tree within = ap (λ b. b && not (is_live_at [] (parent_at xs 0))) (le-ltb (parent_at xs 0) 0 (omega arith))
closed-told test entry xs (suc i) tree within =
    let below : parent_at xs (suc i) < suc i = tree.ordered (suc i) (omega arith) within in
    let long = long-take test entry xs (suc i) within in
    let there : nat_lt (parent_at xs (suc i)) (length (closing test entry [] (take (suc i) xs))) ≡ true = lt-ltb (parent_at xs (suc i)) (length (closing test entry [] (take (suc i) xs))) (omega (arith, long, below)) in
    let first : nat_lt 0 (suc i) ≡ true = lt-ltb 0 (suc i) (omega arith) in
    ap (λ b. b && not (is_live_at (closing test entry [] (take (suc i) xs)) (parent_at xs (suc i)))) there
    ∙ ap (λ (n : Node). not (is_live n)) (closing-parent test entry xs (suc i) (parent_at xs (suc i)) within below)
    ∙ ap (λ b. b && not (is_live_at (closing test entry [] xs) (parent_at xs (suc i)))) (sym first)

settled-live : (entry : ℕ) (n : Node) (l b : Bool) → is_live n ≡ l → l ≡ true → is_live (cond (l && b) (closed_with entry n) n) ≡ not b
settled-live entry n true true is live = refl
settled-live entry n true false is live = is
settled-live entry n false b is live = absurd (false≢true live)

-- a live obligation stays live where the test doesn't say so of it, and its parent stays live
pub live-told : (test : Test) (entry : ℕ) (xs : List Node) (i : ℕ) → IsTree xs → is_live_at xs i ≡ true
    → is_live_at (closing test entry [] xs) i ≡ not (test i (node_at xs i).obligation || (nat_lt 0 i && not (is_live_at (closing test entry [] xs) (parent_at xs i))))
live-told test entry xs i tree live =
    let within = live-within xs i live in
    let before = closing test entry [] (take i xs) in
    let n = node_at xs i in
    ap is_live (closing-at test entry xs i within)
    ∙ settled-live entry n (is_live n) (test (length before) n.obligation || is_closed_at before n.obligation.parent) refl live
    ∙ ap (λ k. not (test k n.obligation || is_closed_at before n.obligation.parent)) (long-take test entry xs i within)
    ∙ ap (λ b. not (test i n.obligation || b)) (closed-told test entry xs i tree within)

-- what stays live isn't what the test tells of
pub live-untold : (test : Test) (entry : ℕ) (xs : List Node) (i : ℕ) → IsTree xs → is_live_at (closing test entry [] xs) i ≡ true → test i (node_at xs i).obligation ≡ false
live-untold test entry xs i tree live =
    let was = closing-live test entry xs i live in
    (or_parts (test i (node_at xs i).obligation) (nat_lt 0 i && not (is_live_at (closing test entry [] xs) (parent_at xs i)))
    (not-true (test i (node_at xs i).obligation || (nat_lt 0 i && not (is_live_at (closing test entry [] xs) (parent_at xs i)))) (sym (live-told test entry xs i tree was) ∙ live))).0

-- what was closed stays as it was
pub closed-stays : (test : Test) (entry : ℕ) (xs : List Node) (i : ℕ) → is_live_at xs i ≡ false → node_at (closing test entry [] xs) i ≡ node_at xs i
closed-stays test entry xs i closed = ⊎_elim (λ same. same) (λ new. absurd (false≢true (sym closed ∙ new.0))) (became test entry xs i)

-- what this closes has the entry's number
pub closed-now : (test : Test) (entry : ℕ) (xs : List Node) (i : ℕ) → is_live_at xs i ≡ true → is_live_at (closing test entry [] xs) i ≡ false → node_at (closing test entry [] xs) i ≡ closed_with entry (node_at xs i)
closed-now test entry xs i live closed = ⊎_elim (λ same. absurd (false≢true (sym closed ∙ ap is_live same ∙ live))) (λ new. new.1) (became test entry xs i)

-- ---- what hangs under what

abbrev pub IsTold : Test → List Node → ℕ → Type 0
IsTold test xs i = (above : ℕ) × HangsUnder xs above i × (test above (node_at xs above).obligation ≡ true)

-- one step up: the test tells of it, or its parent is closed, too
one-up : (test : Test) (entry : ℕ) (xs : List Node) (i : ℕ) → IsTree xs → is_live_at xs i ≡ true → is_live_at (closing test entry [] xs) i ≡ false
    → (test i (node_at xs i).obligation ≡ true) ⊎ ((0 < i) × (is_live_at (closing test entry [] xs) (parent_at xs i) ≡ false))
one-up test entry xs i tree live closed =
    let up : Bool = nat_lt 0 i && not (is_live_at (closing test entry [] xs) (parent_at xs i)) in
    let told : (test i (node_at xs i).obligation || up) ≡ true = not-false (test i (node_at xs i).obligation || up) (sym (live-told test entry xs i tree live) ∙ closed) in
    ⊎_elim (λ here. inl here)
    (λ above. let parts = and_parts (nat_lt 0 i) (not (is_live_at (closing test entry [] xs) (parent_at xs i))) above in inr (ltb-true 0 i parts.0, not-true (is_live_at (closing test entry [] xs) (parent_at xs i)) parts.1))
    (or_cases (test i (node_at xs i).obligation) up told)

pub why-closed : (test : Test) (entry : ℕ) (xs : List Node) → IsTree xs → (fuel i : ℕ) → i ≤ fuel → is_live_at xs i ≡ true → is_live_at (closing test entry [] xs) i ≡ false → IsTold test xs i
why-closed test entry xs tree zero i least live closed =
    ⊎_elim (λ here. (i, itself, here)) (λ above. let some = above.0 in absurd (omega (arith, least, some))) (one-up test entry xs i tree live closed)
why-closed test entry xs tree (suc fuel) i least live closed =
    ⊎_elim (λ here. (i, itself, here)) (λ above. up above.0 above.1 (λ low p. why-closed test entry xs tree fuel (parent_at xs i) low p above.1)) (one-up test entry xs i tree live closed) where
      up : 0 < i → is_live_at (closing test entry [] xs) (parent_at xs i) ≡ false → (parent_at xs i ≤ fuel → is_live_at xs (parent_at xs i) ≡ true → IsTold test xs (parent_at xs i)) → IsTold test xs i
      up some gone more =
          let within = live-within xs i live in
          let below : parent_at xs i < i = tree.ordered i some within in
          let it : IsTold test xs (parent_at xs i) = more (omega (arith, below, least)) (tree.hung i live) in
          (it.0, beneath i some it.1, it.2)

pub what-falls : (test : Test) (entry : ℕ) (xs : List Node) (above i : ℕ) → IsTree xs → HangsUnder xs above i → test above (node_at xs above).obligation ≡ true → is_live_at xs i ≡ true → is_live_at (closing test entry [] xs) i ≡ false
what-falls test entry xs above _ tree itself told live =
    live-told test entry xs above tree live ∙ ap (λ b. not (b || (nat_lt 0 above && not (is_live_at (closing test entry [] xs) (parent_at xs above))))) told
what-falls test entry xs above _ tree (beneath i some under) told live =
    let parent : is_live_at (closing test entry [] xs) (parent_at xs i) ≡ false = what-falls test entry xs above (parent_at xs i) tree under told (tree.hung i live) in
    let first : nat_lt 0 i ≡ true = lt-ltb 0 i some in
    live-told test entry xs i tree live
    ∙ ap (λ b. not (test i (node_at xs i).obligation || (b && not (is_live_at (closing test entry [] xs) (parent_at xs i))))) first
    ∙ ap (λ b. not (test i (node_at xs i).obligation || not b)) parent
    ∙ ap not (or_true (test i (node_at xs i).obligation)) where
      or_true : (b : Bool) → (b || true) ≡ true
      or_true true = refl
      or_true false = refl

-- what is live afterwards stands as it stood
pub live-stays : (test : Test) (entry : ℕ) (xs : List Node) (i : ℕ) → is_live_at (closing test entry [] xs) i ≡ true → node_at (closing test entry [] xs) i ≡ node_at xs i
live-stays test entry xs i live = ⊎_elim (λ same. same) (λ new. absurd (false≢true (sym (ap is_live new.1) ∙ live))) (became test entry xs i)

-- ---- a raise

pub raise-live : (level entry : ℕ) (xs : List Node) (i : ℕ) → IsTree xs → is_live_at (after_raise level entry xs) i ≡ true → i ≡ 0
raise-live level entry xs i tree live =
    let test : Test = λ number obligation. nat_lt 0 number in
    let was : is_live_at (closing test entry [] xs) i ≡ true = sym (root_at-live level (closing test entry [] xs) i) ∙ live in
    let low : i ≤ 0 = ltb-false 0 i (live-untold test entry xs i tree was) in
    omega (arith, low)

pub raise-root : (level entry : ℕ) (xs : List Node) → IsTree xs → (node_at (after_raise level entry xs) 0).obligation ≡ root level
raise-root level entry xs tree =
    let test : Test = λ number obligation. nat_lt 0 number in
    let after = closing-tree test entry xs tree in
    root_at-root level (closing test entry [] xs) after.some after.rooted
