-- Closing: the pass over the live obligations closes what the rule says, and what is left is a tree.
use Rattle.std.proofs.Common.{◌≡◌, ℕ, suc, zero, ◌+◌, ◌-◌, ◌<◌, ◌≤◌, List, [], ◌∷◌, ◌++◌, length, get_or, set, take, drop, filter, Bool, true, false, cond, not, ◌&&◌, ◌||◌, refl, ap, sym, ◌∙◌, subst, arith, ◌⊎◌, inl, inr, ⊎_elim}
use Rattle.std.specs.Prelude.{is_some, nat_lt}
use Rattle.std.specs.List.{range_with_len}
use Rattle.std.proofs.lemmas.Bool.{cases_lt, lt-ltb, le-ltb, false≢true, not-false}
use Rattle.std.proofs.lemmas.List.{append-nil, append_assoc, get_or_append_left, get_or_at, get_or_past, set_at, take_more, take_all, drop_more, drop_all, length-take-le, length-append, length-set, length_push}
use Rattle.std.proofs.lemmas.List.Elements.{filter-append}
use Rattle.obligation_tree.specs.Nodes.{absent, closed_with, is_live, is_live_at, live_numbers, node_at, parent_at, root}
use Rattle.obligation_tree.specs.Closing.{after, closing, hits, is_closed_at, settled}
use Rattle.obligation_tree.specs.Shape.{IsTree}
use Rattle.obligation_tree.specs.machinery.Passes.{IsKept, levelled, settled_all, settled_at}
use Rattle.obligation_tree.specs.declared.obligation.Obligation.{Obligation}
use Rattle.obligation_tree.specs.declared.node.Node.{Node}
use Rattle.obligation_tree.specs.declared.index.Index.{Index}
use Rattle.obligation_tree.specs.declared.cause.Cause.{Cause}
use Rattle.obligation_tree.specs.declared.cause.Cause.TheVariants.{Lemma, Fact, Raise}
use Rattle.obligation_tree.proofs.NumberLemmas.{range-suc, filter-filter, filter-same}
use Rattle.obligation_tree.proofs.ShapeLemmas.{kept-root_at, live-within}

abbrev pub Test : Type 0
Test = ℕ → Obligation → Bool

-- ---- what stands at each number afterwards

-- a settled obligation is the old one, or it was live and is closed by the entry
abbrev pub Became : ℕ → Node → Node → Type 0
Became entry old new = (new ≡ old) ⊎ ((is_live old ≡ true) × (new ≡ closed_with entry old))

settled-became : (test : Test) (entry : ℕ) (before : List Node) (n : Node) → Became entry n (settled test entry before n)
settled-became test entry before n = by (is_live n) refl (test (length before) n.obligation || is_closed_at before n.obligation.parent) where
  by : (b : Bool) → is_live n ≡ b → (d : Bool) → Became entry n (cond (b && d) (closed_with entry n) n)
  by true is true = inr (is, refl)
  by true is false = inl refl
  by false is d = inl refl

pub length-closing : (test : Test) (entry : ℕ) (before xs : List Node) → length (closing test entry before xs) ≡ length before + length xs
length-closing test entry before [] = omega arith
length-closing test entry before (x ∷ xs) =
    let more = length-closing test entry (before ++ settled test entry before x ∷ []) xs in
    let long : length (before ++ settled test entry before x ∷ []) ≡ length before + 1 = length_push before (settled test entry before x) in
    omega (arith, more, long)

-- what is settled stays
pub closing-before : (test : Test) (entry : ℕ) (before xs : List Node) (i : ℕ) → i < length before → node_at (closing test entry before xs) i ≡ node_at before i
closing-before test entry before [] i within = refl
closing-before test entry before (x ∷ xs) i within =
    let s = settled test entry before x in
    let long : length (before ++ s ∷ []) ≡ length before + 1 = length_push before s in
    closing-before test entry (before ++ s ∷ []) xs i (omega (arith, long)) ∙ get_or_append_left before (s ∷ []) absent i within

closing-became : (test : Test) (entry : ℕ) (before xs : List Node) (i j : ℕ) → j ≡ length before + i → i < length xs → Became entry (node_at xs i) (node_at (closing test entry before xs) j)
closing-became test entry before [] i j is within = absurd (omega arith)
closing-became test entry before (x ∷ xs) zero j is within =
    let s = settled test entry before x in
    let long : length (before ++ s ∷ []) ≡ length before + 1 = length_push before s in
    let at : node_at (closing test entry (before ++ s ∷ []) xs) j ≡ s = closing-before test entry (before ++ s ∷ []) xs j (omega (arith, long, is)) ∙ get_or_at before s [] absent j (omega (arith, is)) in
    subst (λ n. Became entry x n) (sym at) (settled-became test entry before x)
closing-became test entry before (x ∷ xs) (suc i) j is within =
    let s = settled test entry before x in
    let long : length (before ++ s ∷ []) ≡ length before + 1 = length_push before s in
    closing-became test entry (before ++ s ∷ []) xs i j (omega (arith, long, is)) (omega arith)

pub became : (test : Test) (entry : ℕ) (xs : List Node) (i : ℕ) → Became entry (node_at xs i) (node_at (closing test entry [] xs) i)
became test entry xs i = ⊎_elim (λ within. closing-became test entry [] xs i i (omega arith) within) past (cases_lt i (length xs)) where
  past : length xs ≤ i → Became entry (node_at xs i) (node_at (closing test entry [] xs) i)
  past beyond =
      let long = length-closing test entry [] xs in
      inl (get_or_past (closing test entry [] xs) i absent (omega (arith, long)) ∙ sym (get_or_past xs i absent beyond))

-- the obligations stay
pub closing-obligation : (test : Test) (entry : ℕ) (xs : List Node) (i : ℕ) → (node_at (closing test entry [] xs) i).obligation ≡ (node_at xs i).obligation
closing-obligation test entry xs i = ⊎_elim (λ same. ap (λ (n : Node). n.obligation) same) (λ new. ap (λ (n : Node). n.obligation) new.1) (became test entry xs i)

-- what is live after closing was live before
pub closing-live : (test : Test) (entry : ℕ) (xs : List Node) (i : ℕ) → is_live_at (closing test entry [] xs) i ≡ true → is_live_at xs i ≡ true
closing-live test entry xs i live = ⊎_elim (λ same. ap is_live (sym same) ∙ live) (λ new. new.0) (became test entry xs i)

-- ---- what is left is a tree

abbrev pub IsHung : List Node → Type 0
IsHung xs = (i : ℕ) → is_live_at xs i ≡ true → is_live_at xs (parent_at xs i) ≡ true

-- each parent stands before, or it is the root and its own
abbrev pub AreBehind : ℕ → List Node → Type 0
AreBehind at xs = (i : ℕ) → i < length xs → parent_at xs i ≤ at + i - 1

behind-tail : (at : ℕ) (x : Node) (xs : List Node) → AreBehind at (x ∷ xs) → AreBehind (at + 1) xs
behind-tail at x xs behind i within =
    let here : parent_at xs i ≤ at + suc i - 1 = behind (suc i) (omega arith) in
    omega (arith, here)

live-at : (xs : List Node) (n : Node) (i : ℕ) → is_live_at xs i ≡ true → is_live_at (xs ++ n ∷ []) i ≡ true
live-at xs n i live = ap is_live (get_or_append_left xs (n ∷ []) absent i (live-within xs i live)) ∙ live

hung-push : (xs : List Node) (n : Node) → IsHung xs → (is_live n ≡ true → is_live_at (xs ++ n ∷ []) n.obligation.parent ≡ true) → IsHung (xs ++ n ∷ [])
hung-push xs n hung last i live = ⊎_elim old new (cases_lt i (length xs)) where
  old : i < length xs → is_live_at (xs ++ n ∷ []) (parent_at (xs ++ n ∷ []) i) ≡ true
  old within =
      let at = get_or_append_left xs (n ∷ []) absent i within in
      ap (λ (m : Node). is_live_at (xs ++ n ∷ []) m.obligation.parent) at ∙ live-at xs n (parent_at xs i) (hung i (ap is_live (sym at) ∙ live))

  new : length xs ≤ i → is_live_at (xs ++ n ∷ []) (parent_at (xs ++ n ∷ []) i) ≡ true
  new behind =
      let within = live-within (xs ++ n ∷ []) i live in
      let long = length_push xs n in
      let at : node_at (xs ++ n ∷ []) i ≡ n = get_or_at xs n [] absent i (omega (arith, within, long)) in
      ap (λ (m : Node). is_live_at (xs ++ n ∷ []) m.obligation.parent) at ∙ last (ap is_live (sym at) ∙ live)

-- what stays live has a parent that is live by now
settled-hung : (test : Test) (entry : ℕ) (before : List Node) (n : Node) → n.obligation.parent ≤ length before - 1 → is_live (settled test entry before n) ≡ true
    → is_live_at (before ++ settled test entry before n ∷ []) (settled test entry before n).obligation.parent ≡ true
settled-hung test entry before n behind = by (is_live n) refl (test (length before) n.obligation) (is_closed_at before n.obligation.parent) refl where
  p : ℕ
  p = n.obligation.parent

  open-parent : is_live n ≡ true → is_closed_at before n.obligation.parent ≡ false → is_live_at (before ++ n ∷ []) n.obligation.parent ≡ true
  open-parent live open' = ⊎_elim inside own (cases_lt n.obligation.parent (length before)) where
    inside : n.obligation.parent < length before → is_live_at (before ++ n ∷ []) n.obligation.parent ≡ true
    inside within =
        let there : nat_lt n.obligation.parent (length before) ≡ true = lt-ltb n.obligation.parent (length before) within in
        let test' : not (is_live_at before n.obligation.parent) ≡ false = ap (λ b. b && not (is_live_at before n.obligation.parent)) (sym there) ∙ open' in
        live-at before n n.obligation.parent (not-false (is_live_at before n.obligation.parent) test')

    own : length before ≤ n.obligation.parent → is_live_at (before ++ n ∷ []) n.obligation.parent ≡ true
    own past = ap is_live (get_or_at before n [] absent n.obligation.parent (omega (arith, behind, past))) ∙ live

  by : (l : Bool) → is_live n ≡ l → (t d : Bool) → is_closed_at before n.obligation.parent ≡ d
      → is_live (cond (l && (t || d)) (closed_with entry n) n) ≡ true → is_live_at (before ++ cond (l && (t || d)) (closed_with entry n) n ∷ []) (cond (l && (t || d)) (closed_with entry n) n).obligation.parent ≡ true
  by false is t d closed live = absurd (false≢true (sym is ∙ live))
  by true is true d closed live = absurd (false≢true live)
  by true is false true closed live = absurd (false≢true live)
  by true is false false closed live = open-parent is closed

closing-hung : (test : Test) (entry : ℕ) (before xs : List Node) → AreBehind (length before) xs → IsHung before → IsHung (closing test entry before xs)
closing-hung test entry before [] behind hung = hung
closing-hung test entry before (x ∷ xs) behind hung =
    let s = settled test entry before x in
    let long : length (before ++ s ∷ []) ≡ length before + 1 = length_push before s in
    let first : x.obligation.parent ≤ length before - 1 = (let here : x.obligation.parent ≤ length before + 0 - 1 = behind 0 (omega arith) in omega (arith, here)) in
    closing-hung test entry (before ++ s ∷ []) xs (subst (λ at. AreBehind at xs) (sym long) (behind-tail (length before) x xs behind)) (hung-push before s hung (settled-hung test entry before x first))

tree-behind : (xs : List Node) → IsTree xs → AreBehind 0 xs
tree-behind xs tree zero within = (let own : parent_at xs 0 ≡ 0 = ap (λ (o : Obligation). o.parent) tree.rooted in omega (arith, own))
tree-behind xs tree (suc i) within = (let below : parent_at xs (suc i) < suc i = tree.ordered (suc i) (omega arith) within in omega (arith, below))

pub closing-tree : (test : Test) (entry : ℕ) (xs : List Node) → IsTree xs → IsTree (closing test entry [] xs)
closing-tree test entry xs tree =
    let long = length-closing test entry [] xs in
    let first = closing-obligation test entry xs 0 in
    record {
      some = (let some = tree.some in omega (arith, long, some));
      rooted = first ∙ tree.rooted ∙ ap (λ (o : Obligation). root o.level) (sym first);
      others = λ i above within. ap (λ (o : Obligation). is_some o.pred) (closing-obligation test entry xs i) ∙ tree.others i above (omega (arith, long, within));
      ordered = λ i above within. subst (λ (o : Obligation). o.parent < i) (sym (closing-obligation test entry xs i)) (tree.ordered i above (omega (arith, long, within)));
      hung = closing-hung test entry [] xs (tree-behind xs tree) (λ i live. absurd (false≢true live));
    }

-- ---- the pass over the live obligations

closing-push : (test : Test) (entry : ℕ) (before xs : List Node) (n : Node) → closing test entry before (xs ++ n ∷ []) ≡ closing test entry before xs ++ settled test entry (closing test entry before xs) n ∷ []
closing-push test entry before [] n = refl
closing-push test entry before (x ∷ xs) n = closing-push test entry (before ++ settled test entry before x ∷ []) xs n

settled_all-push : (test : Test) (entry : ℕ) (ns : List ℕ) (n : ℕ) (xs : List Node) → settled_all test entry (ns ++ n ∷ []) xs ≡ settled_at test entry n (settled_all test entry ns xs)
settled_all-push test entry [] n xs = refl
settled_all-push test entry (m ∷ ns) n xs = settled_all-push test entry ns n (settled_at test entry m xs)

-- a parent that stands before is told alike with and without what stands behind
closed-before : (before rest : List Node) (n : Node) (p : ℕ) → p ≤ length before - 1 → is_live n ≡ true → is_closed_at (before ++ n ∷ rest) p ≡ is_closed_at before p
closed-before before rest n p behind live = ⊎_elim inside own (cases_lt p (length before)) where
  long : length (before ++ n ∷ rest) ≡ length before + suc (length rest)
  long = length-append before (n ∷ rest)

  inside : p < length before → is_closed_at (before ++ n ∷ rest) p ≡ is_closed_at before p
  inside within =
      let there : nat_lt p (length (before ++ n ∷ rest)) ≡ nat_lt p (length before) = lt-ltb p (length (before ++ n ∷ rest)) (omega (arith, long, within)) ∙ sym (lt-ltb p (length before) within) in
      ap (λ b. b && not (is_live_at (before ++ n ∷ rest) p)) there ∙ ap (λ m. nat_lt p (length before) && not (is_live m)) (get_or_append_left before (n ∷ rest) absent p within)

  own : length before ≤ p → is_closed_at (before ++ n ∷ rest) p ≡ is_closed_at before p
  own past =
      let there : nat_lt p (length (before ++ n ∷ rest)) ≡ true = lt-ltb p (length (before ++ n ∷ rest)) (omega (arith, long, behind, past)) in
      let not-there : nat_lt p (length before) ≡ false = le-ltb p (length before) past in
      let at : node_at (before ++ n ∷ rest) p ≡ n = get_or_at before n rest absent p (omega (arith, behind, past)) in
      ap (λ b. b && not (is_live_at (before ++ n ∷ rest) p)) there ∙ ap (λ m. not (is_live m)) at ∙ ap not live ∙ sym (ap (λ b. b && not (is_live_at before p)) not-there)

-- one live obligation of the pass is the next of the rule
one-settled : (test : Test) (entry k : ℕ) (before rest : List Node) (n : Node) → length before ≡ k → n.obligation.parent ≤ k - 1 → is_live n ≡ true
    → settled_at test entry k (before ++ n ∷ rest) ≡ before ++ settled test entry before n ∷ rest
one-settled test entry k before rest n long behind live =
    let xs = before ++ n ∷ rest in
    let at : node_at xs k ≡ n = get_or_at before n rest absent k long in
    let told : (test k n.obligation || is_closed_at xs n.obligation.parent) ≡ (test (length before) n.obligation || is_closed_at before n.obligation.parent) =
    ap (λ i. test i n.obligation || is_closed_at xs n.obligation.parent) (sym long)
    ∙ ap (λ b. test (length before) n.obligation || b) (closed-before before rest n n.obligation.parent (omega (arith, behind, long)) live) in
    ap (λ (m : Node). cond (test k m.obligation || is_closed_at xs m.obligation.parent) (set xs k (closed_with entry m)) xs) at
    ∙ ap (λ b. cond b (set xs k (closed_with entry n)) xs) told
    ∙ by (test (length before) n.obligation || is_closed_at before n.obligation.parent) where
      by : (b : Bool) → cond b (set (before ++ n ∷ rest) k (closed_with entry n)) (before ++ n ∷ rest) ≡ before ++ cond (is_live n && b) (closed_with entry n) n ∷ rest
      by true = set_at before n rest (closed_with entry n) k long ∙ ap (λ l. before ++ cond (l && true) (closed_with entry n) n ∷ rest) (sym live)
      by false = ap (λ l. before ++ cond (l && false) (closed_with entry n) n ∷ rest) (sym live)

settled-closed : (test : Test) (entry : ℕ) (before : List Node) (n : Node) → is_live n ≡ false → settled test entry before n ≡ n
settled-closed test entry before n closed = ap (λ l. cond (l && (test (length before) n.obligation || is_closed_at before n.obligation.parent)) (closed_with entry n) n) closed

-- the pass, as far as the numbers below k
passed : (test : Test) (entry : ℕ) (xs : List Node) → AreBehind 0 xs → (k : ℕ) → k ≤ length xs
    → settled_all test entry (filter (is_live_at xs) (range_with_len 0 k)) xs ≡ closing test entry [] (take k xs) ++ drop k xs
passed test entry xs behind zero within = refl
passed test entry xs behind (suc k) within = by (is_live_at xs k) refl (passed test entry xs behind k (omega arith)) where
  n : Node
  n = node_at xs k

  before : List Node
  before = closing test entry [] (take k xs)

  one : k + 1 ≡ suc k
  one = omega arith

  taken : take (suc k) xs ≡ take k xs ++ node_at xs k ∷ []
  taken = subst (λ m. take m xs ≡ take k xs ++ node_at xs k ∷ []) one (take_more xs k absent (omega arith))

  dropped : drop k xs ≡ node_at xs k ∷ drop (suc k) xs
  dropped = subst (λ m. drop k xs ≡ node_at xs k ∷ drop m xs) one (drop_more xs k absent (omega arith))

  long : length (closing test entry [] (take k xs)) ≡ k
  long = (let all = length-closing test entry [] (take k xs) in let part = length-take-le k xs (omega arith) in omega (arith, all, part))

  next : before ++ settled test entry before n ∷ drop (suc k) xs ≡ closing test entry [] (take (suc k) xs) ++ drop (suc k) xs
  next =
      sym (append_assoc before (settled test entry before n ∷ []) (drop (suc k) xs))
      ∙ ap (λ (ys : List Node). ys ++ drop (suc k) xs) (sym (closing-push test entry [] (take k xs) n))
      ∙ ap (λ (ys : List Node). closing test entry [] ys ++ drop (suc k) xs) (sym taken)

  low : (node_at xs k).obligation.parent ≤ k - 1
  low = (let here : parent_at xs k ≤ 0 + k - 1 = behind k (omega arith) in omega (arith, here))

  ids : List ℕ
  ids = filter (is_live_at xs) (range_with_len 0 k)

  all : filter (is_live_at xs) (range_with_len 0 (suc k)) ≡ ids ++ cond (is_live_at xs k) (k ∷ []) []
  all = ap (λ ns. filter (is_live_at xs) ns) (range-suc k) ∙ filter-append (is_live_at xs) (range_with_len 0 k) (k ∷ [])

  by : (l : Bool) → is_live_at xs k ≡ l → settled_all test entry (filter (is_live_at xs) (range_with_len 0 k)) xs ≡ closing test entry [] (take k xs) ++ drop k xs
      → settled_all test entry (filter (is_live_at xs) (range_with_len 0 (suc k))) xs ≡ closing test entry [] (take (suc k) xs) ++ drop (suc k) xs
  by true is more =
      ap (λ ns. settled_all test entry ns xs) (all ∙ ap (λ b. ids ++ cond b (k ∷ []) []) is)
      ∙ settled_all-push test entry ids k xs
      ∙ ap (λ (ys : List Node). settled_at test entry k ys) (more ∙ ap (λ (ys : List Node). before ++ ys) dropped)
      ∙ one-settled test entry k before (drop (suc k) xs) n long low is
      ∙ next
  by false is more =
      ap (λ ns. settled_all test entry ns xs) (all ∙ ap (λ b. ids ++ cond b (k ∷ []) []) is ∙ append-nil ids)
      ∙ more
      ∙ ap (λ (ys : List Node). before ++ ys) dropped
      ∙ ap (λ (m : Node). before ++ m ∷ drop (suc k) xs) (sym (settled-closed test entry before n is))
      ∙ next

pub pass : (test : Test) (entry : ℕ) (xs : List Node) → IsTree xs → settled_all test entry (live_numbers xs) xs ≡ closing test entry [] xs
pass test entry xs tree =
    passed test entry xs (tree-behind xs tree) (length xs) (omega arith)
    ∙ ap (λ (ys : List Node). closing test entry [] ys ++ drop (length xs) xs) (take_all (length xs) xs (omega arith))
    ∙ ap (λ (ys : List Node). closing test entry [] xs ++ ys) (drop_all (length xs) xs (omega arith))
    ∙ append-nil (closing test entry [] xs)

-- ---- the lists of what is left

absorbed : (a b : Bool) → (b ≡ true → a ≡ true) → (a && b) ≡ b
absorbed true b h = refl
absorbed false true h = absurd (false≢true (h refl))
absorbed false false h = refl

pub closing-live_numbers : (test : Test) (entry : ℕ) (xs : List Node) → filter (is_live_at (closing test entry [] xs)) (live_numbers xs) ≡ live_numbers (closing test entry [] xs)
closing-live_numbers test entry xs =
    let ys = closing test entry [] xs in
    let long : length xs ≡ length ys = (let more = length-closing test entry [] xs in omega (arith, more)) in
    filter-filter (is_live_at xs) (is_live_at ys) (range_with_len 0 (length xs))
    ∙ filter-same (λ i. is_live_at xs i && is_live_at ys i) (is_live_at ys) (range_with_len 0 (length xs)) (λ i. absorbed (is_live_at xs i) (is_live_at ys i) (closing-live test entry xs i))
    ∙ ap (λ n. filter (is_live_at ys) (range_with_len 0 n)) long

-- the nodes after the pass, and those that are live among them
pub pass-now : (cause : Cause) (entry : ℕ) (xs : List Node) (index : Index) (ys zs : List Node) (ns : List ℕ) → IsKept xs index
    → ys ≡ xs → ns ≡ index.live.items → zs ≡ settled_all (hits cause) entry ns ys → zs ≡ closing (hits cause) entry [] xs
pass-now cause entry xs index ys zs ns kept ys-is ns-is zs-is =
    zs-is
    ∙ ap (λ (ms : List ℕ). settled_all (hits cause) entry ms ys) (ns-is ∙ kept.live)
    ∙ ap (λ (ms : List Node). settled_all (hits cause) entry (live_numbers xs) ms) ys-is
    ∙ pass (hits cause) entry xs kept.tree

pub live-now : (test : Test) (entry : ℕ) (xs : List Node) (index : Index) (zs : List Node) (ns ms : List ℕ) → IsKept xs index
    → zs ≡ closing test entry [] xs → ns ≡ index.live.items → ms ≡ filter (is_live_at zs) ns → ms ≡ live_numbers zs
live-now test entry xs index zs ns ms kept zs-is ns-is ms-is =
    ms-is
    ∙ ap (λ (ks : List ℕ). filter (is_live_at zs) ks) (ns-is ∙ kept.live)
    ∙ subst (λ (ys : List Node). filter (is_live_at ys) (live_numbers xs) ≡ live_numbers ys) (sym zs-is) (closing-live_numbers test entry xs)

pub tree-now : (test : Test) (entry : ℕ) (xs zs : List Node) → IsTree xs → zs ≡ closing test entry [] xs → IsTree zs
tree-now test entry xs zs tree is = subst (λ (ys : List Node). IsTree ys) (sym is) (closing-tree test entry xs tree)

pub kept-levelled : (cause : Cause) (xs : List Node) (index : Index) → IsKept xs index → IsKept (levelled cause xs) index
kept-levelled (Lemma pred level lemma) xs index kept = kept
kept-levelled (Fact pred tuple) xs index kept = kept
kept-levelled (Raise level) xs index kept = kept-root_at level xs index kept

pub after-is : (cause : Cause) (entry : ℕ) (xs : List Node) → after cause entry xs ≡ levelled cause (closing (hits cause) entry [] xs)
after-is (Lemma pred level lemma) entry xs = refl
after-is (Fact pred tuple) entry xs = refl
after-is (Raise level) entry xs = refl

-- what is live has a parent that was given out
pub live-parents : (xs : List Node) (i : ℕ) → IsTree xs → is_live_at xs i ≡ true → parent_at xs i < length xs
live-parents xs i tree live = live-within xs (parent_at xs i) (tree.hung i live)

-- the pass after one more number
length-either : (b : Bool) (xs ys : List Node) → length xs ≡ length ys → length (cond {A = List Node} b xs ys) ≡ length ys
length-either true xs ys same = same
length-either false xs ys same = refl

length-settled : (test : Test) (entry number : ℕ) (xs : List Node) → length (settled_at test entry number xs) ≡ length xs
length-settled test entry number xs =
    let closed = set xs number (closed_with entry (node_at xs number)) in
    length-either (test number (node_at xs number).obligation || is_closed_at xs (node_at xs number).obligation.parent) closed xs (length-set xs number (closed_with entry (node_at xs number)))

pub settle-more : (test : Test) (entry : ℕ) (ns : List ℕ) (i : ℕ) (nodes new initial : List Node) → i < length ns → new ≡ settled_at test entry (get_or ns i 0) nodes
    → (length nodes ≡ length initial) × (settled_all test entry (drop i ns) nodes ≡ settled_all test entry ns initial) → (length new ≡ length initial) × (settled_all test entry (drop (i + 1) ns) new ≡ settled_all test entry ns initial)
settle-more test entry ns i nodes new initial less is kept = (
  ap (λ (xs : List Node). length xs) is ∙ length-settled test entry (get_or ns i 0) nodes ∙ kept.0,
  ap (λ (xs : List Node). settled_all test entry (drop (i + 1) ns) xs) is ∙ sym (ap (λ (ms : List ℕ). settled_all test entry ms nodes) (drop_more ns i 0 less)) ∙ kept.1,
)
