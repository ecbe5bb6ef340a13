-- What a tree keeps, when an obligation comes, is marked or changes its level.
use Rattle.std.proofs.Common.{◌≡◌, ℕ, suc, zero, ◌+◌, ◌<◌, List, [], ◌∷◌, ◌++◌, length, set, filter, Bool, true, false, cond, not, ◌&&◌, ◌||◌, ◌==◌, refl, ap, sym, ◌∙◌, subst, arith, ◌⊎◌, inl, inr, ⊎_elim}
use Rattle.std.specs.Prelude.{Option, is_some, nat_lt}
use Rattle.std.specs.List.{range_with_len, list_any}
use Rattle.std.proofs.lemmas.Bool.{cases_lt, cases_eq, ne_eqb, lt-ltb, false≢true, and_right}
use Rattle.std.proofs.lemmas.List.{get_or_append_left, get_or_push, get_or_past, get_or-set_same, get_or-set_other, length-set, length_push}
use Rattle.std.proofs.lemmas.List.Elements.{filter-append}
use Rattle.std.proofs.lemmas.List.Folds.{list_any-append}
use Rattle.obligation_tree.specs.Nodes.{absent, fresh, has_live_child, is_child_of, is_live, is_live_at, leaf_numbers, live_numbers, marked_at, node_at, parent_at, root}
use Rattle.obligation_tree.specs.Closing.{root_at}
use Rattle.obligation_tree.specs.Shape.{IsTree}
use Rattle.obligation_tree.specs.machinery.Passes.{IsKept}
use Rattle.obligation_tree.specs.declared.obligation.Obligation.{Obligation}
use Rattle.obligation_tree.specs.declared.node.Node.{Node}
use Rattle.obligation_tree.specs.declared.index.Index.{Index}
use Rattle.obligation_tree.proofs.NumberLemmas.{range-suc, filter-filter, filter-same, any-same, filter-range, any-below, any-never}

-- whose predicate an obligation asks for
abbrev pub pred_at : List Node → ℕ → Option ℕ
pred_at nodes number = (node_at nodes number).obligation.pred

-- two lists of obligations that ask and hang alike, and of which the same are live
pub record SameShape (xs ys : List Node) : Type 0 where
  pub long : length xs ≡ length ys
  pub live : (i : ℕ) → is_live_at xs i ≡ is_live_at ys i
  pub parents : (i : ℕ) → parent_at xs i ≡ parent_at ys i
  pub preds : (i : ℕ) → pred_at xs i ≡ pred_at ys i

pub same-live_numbers : (xs ys : List Node) → SameShape xs ys → live_numbers xs ≡ live_numbers ys
same-live_numbers xs ys same =
    filter-range (is_live_at xs) (is_live_at ys) 0 (length xs) (λ i h. same.live i)
    ∙ ap (λ n. filter (is_live_at ys) (range_with_len 0 n)) same.long

pub same-has_live_child : (xs ys : List Node) → SameShape xs ys → (i : ℕ) → has_live_child xs i ≡ has_live_child ys i
same-has_live_child xs ys same i =
    any-same (is_child_of xs i) (is_child_of ys i) (live_numbers xs) (λ c. ap (λ p. nat_lt 0 c && p == i) (same.parents c))
    ∙ ap (λ ns. list_any (is_child_of ys i) ns) (same-live_numbers xs ys same)

pub same-leaf_numbers : (xs ys : List Node) → SameShape xs ys → leaf_numbers xs ≡ leaf_numbers ys
same-leaf_numbers xs ys same =
    filter-same (λ i. not (has_live_child xs i)) (λ i. not (has_live_child ys i)) (live_numbers xs) (λ i. ap not (same-has_live_child xs ys same i))
    ∙ ap (λ ns. filter (λ i. not (has_live_child ys i)) ns) (same-live_numbers xs ys same)

pub same-tree : (xs ys : List Node) → SameShape xs ys → (node_at ys 0).obligation ≡ root (node_at ys 0).obligation.level → IsTree xs → IsTree ys
same-tree xs ys same rooted tree = record {
  some = (let long = same.long in let some = tree.some in omega arith);
  rooted = rooted;
  others = λ i above within. (let long = same.long in ap is_some (sym (same.preds i)) ∙ tree.others i above (omega arith));
  ordered = λ i above within.
      let long = same.long in
      let below : parent_at xs i < i = tree.ordered i above (omega arith) in
      subst (λ p. p < i) (same.parents i) below;
  hung = λ i live.
      let was : is_live_at xs i ≡ true = same.live i ∙ live in
      ap (λ p. is_live_at ys p) (sym (same.parents i)) ∙ sym (same.live (parent_at xs i)) ∙ tree.hung i was;
}

-- an obligation with another one's parent, and live where that is, in its place
pub set-shape : (xs : List Node) (at : ℕ) (n : Node) → at < length xs → is_live n ≡ is_live_at xs at → n.obligation.parent ≡ parent_at xs at → n.obligation.pred ≡ pred_at xs at → SameShape xs (set xs at n)
set-shape xs at n within live parent pred = record {
  long = sym (length-set xs at n);
  live = λ i. ⊎_elim (here i) (λ other. sym (ap is_live (get_or-set_other xs at i n absent other))) (cases_eq i at);
  parents = λ i. ⊎_elim (there i) (λ other. sym (ap (λ m. m.obligation.parent) (get_or-set_other xs at i n absent other))) (cases_eq i at);
  preds = λ i. ⊎_elim (asks i) (λ other. sym (ap (λ m. m.obligation.pred) (get_or-set_other xs at i n absent other))) (cases_eq i at);
} where
  here : (i : ℕ) → i ≡ at → is_live_at xs i ≡ is_live_at (set xs at n) i
  here i same = subst (λ j. is_live_at xs j ≡ is_live_at (set xs at n) j) (sym same) (sym live ∙ sym (ap is_live (get_or-set_same xs at n absent within)))

  there : (i : ℕ) → i ≡ at → parent_at xs i ≡ parent_at (set xs at n) i
  there i same = subst (λ j. parent_at xs j ≡ parent_at (set xs at n) j) (sym same) (sym parent ∙ sym (ap (λ m. m.obligation.parent) (get_or-set_same xs at n absent within)))

  asks : (i : ℕ) → i ≡ at → pred_at xs i ≡ pred_at (set xs at n) i
  asks i same = subst (λ j. pred_at xs j ≡ pred_at (set xs at n) j) (sym same) (sym pred ∙ sym (ap (λ m. m.obligation.pred) (get_or-set_same xs at n absent within)))

pub kept-same : (xs ys : List Node) (index : Index) → SameShape xs ys → (node_at ys 0).obligation ≡ root (node_at ys 0).obligation.level → IsKept xs index → IsKept ys index
kept-same xs ys index same rooted kept = record {
  tree = same-tree xs ys same rooted kept.tree;
  live = kept.live ∙ same-live_numbers xs ys same;
  leaves = kept.leaves ∙ same-leaf_numbers xs ys same;
}

-- marking changes no obligation
marked-obligation : (xs : List Node) (at i : ℕ) → at < length xs → (node_at (marked_at at xs) i).obligation ≡ (node_at xs i).obligation
marked-obligation xs at i within = ⊎_elim same (λ other. ap (λ m. m.obligation) (get_or-set_other xs at i (record (node_at xs at) { stalled = true }) absent other)) (cases_eq i at) where
  same : i ≡ at → (node_at (marked_at at xs) i).obligation ≡ (node_at xs i).obligation
  same is = subst (λ j. (node_at (marked_at at xs) j).obligation ≡ (node_at xs j).obligation) (sym is) (ap (λ m. m.obligation) (get_or-set_same xs at (record (node_at xs at) { stalled = true }) absent within))

pub kept-marked : (xs : List Node) (index : Index) (at : ℕ) → at < length xs → IsKept xs index → IsKept (marked_at at xs) index
kept-marked xs index at within kept =
    let same : SameShape xs (marked_at at xs) = set-shape xs at (record (node_at xs at) { stalled = true }) within refl refl refl in
    let first = marked-obligation xs at 0 within in
    kept-same xs (marked_at at xs) index same (first ∙ kept.tree.rooted ∙ ap (λ o. root o.level) (sym first)) kept

-- the root at another level
root_at-is : (level : ℕ) (xs : List Node) → root_at level xs ≡ set xs 0 (record (node_at xs 0) { obligation = record (node_at xs 0).obligation { level = level } })
root_at-is level [] = refl
root_at-is level (x ∷ xs) = refl

root_at-rooted : (level : ℕ) (xs : List Node) → 0 < length xs → (node_at xs 0).obligation ≡ root (node_at xs 0).obligation.level → (node_at (root_at level xs) 0).obligation ≡ root (node_at (root_at level xs) 0).obligation.level
root_at-rooted level [] some rooted = absurd (omega arith)
root_at-rooted level (x ∷ xs) some rooted = ap (λ (o : Obligation). record o { level = level }) rooted

pub kept-root_at : (level : ℕ) (xs : List Node) (index : Index) → IsKept xs index → IsKept (root_at level xs) index
kept-root_at level xs index kept =
    let n : Node = record (node_at xs 0) { obligation = record (node_at xs 0).obligation { level = level } } in
    let same : SameShape xs (root_at level xs) = subst (λ ys. SameShape xs ys) (sym (root_at-is level xs)) (set-shape xs 0 n kept.tree.some refl refl refl) in
    kept-same xs (root_at level xs) index same (root_at-rooted level xs kept.tree.some kept.tree.rooted) kept

-- what is live was given out
pub live-within : (xs : List Node) (i : ℕ) → is_live_at xs i ≡ true → i < length xs
live-within xs i live = ⊎_elim (λ h. h) (λ past. absurd (false≢true (sym (ap is_live (get_or_past xs i absent past)) ∙ live))) (cases_lt i (length xs))

-- one more live obligation
pub old-at : (xs : List Node) (o : Obligation) (i : ℕ) → i < length xs → node_at (xs ++ fresh o ∷ []) i ≡ node_at xs i
old-at xs o i within = get_or_append_left xs (fresh o ∷ []) absent i within

pub new-at : (xs : List Node) (o : Obligation) → node_at (xs ++ fresh o ∷ []) (length xs) ≡ fresh o
new-at xs o = get_or_push xs (fresh o) absent (length xs) refl

added-live : (xs : List Node) (o : Obligation) → live_numbers (xs ++ fresh o ∷ []) ≡ live_numbers xs ++ length xs ∷ []
added-live xs o =
    let n = length xs in
    let ys = xs ++ fresh o ∷ [] in
    let long : length ys ≡ suc n = length_push xs (fresh o) ∙ omega arith in
    let old : filter (is_live_at ys) (range_with_len 0 n) ≡ live_numbers xs = filter-range (is_live_at ys) (is_live_at xs) 0 n (λ i h. ap is_live (old-at xs o i (omega arith))) in
    let new : filter (is_live_at ys) (n ∷ []) ≡ n ∷ [] = ap (λ m. cond (is_live m) (n ∷ []) []) (new-at xs o) in
    ap (λ k. filter (is_live_at ys) (range_with_len 0 k)) long
    ∙ ap (λ is. filter (is_live_at ys) is) (range-suc n)
    ∙ filter-append (is_live_at ys) (range_with_len 0 n) (n ∷ [])
    ∙ ap (λ is. is ++ filter (is_live_at ys) (n ∷ [])) old
    ∙ ap (λ is. live_numbers xs ++ is) new

or_false : (b : Bool) → (b || false) ≡ b
or_false true = refl
or_false false = refl

added-child : (xs : List Node) (o : Obligation) (i : ℕ) → 0 < length xs → has_live_child (xs ++ fresh o ∷ []) i ≡ (has_live_child xs i || o.parent == i)
added-child xs o i some =
    let n = length xs in
    let ys = xs ++ fresh o ∷ [] in
    let first : nat_lt 0 n ≡ true = lt-ltb 0 n some in
    let old : list_any (is_child_of ys i) (live_numbers xs) ≡ has_live_child xs i = any-below (is_child_of ys i) (is_child_of xs i) (is_live_at xs) n (λ c h. ap (λ m. nat_lt 0 c && m.obligation.parent == i) (old-at xs o c h)) in
    let new : list_any (is_child_of ys i) (n ∷ []) ≡ (o.parent == i) = or_false (is_child_of ys i n) ∙ ap (λ m. nat_lt 0 n && m.obligation.parent == i) (new-at xs o) ∙ ap (λ b. b && o.parent == i) first in
    ap (λ ns. list_any (is_child_of ys i) ns) (added-live xs o)
    ∙ list_any-append (is_child_of ys i) (live_numbers xs) (n ∷ [])
    ∙ ap (λ b. b || list_any (is_child_of ys i) (n ∷ [])) old
    ∙ ap (λ b. has_live_child xs i || b) new

-- nothing hangs under a number that was never given out
no-child : (xs : List Node) → IsTree xs → has_live_child xs (length xs) ≡ false
no-child xs tree = any-below (is_child_of xs (length xs)) (λ c. false) (is_live_at xs) (length xs) never ∙ any-never (live_numbers xs) where
  never : (c : ℕ) → c < length xs → is_child_of xs (length xs) c ≡ false
  never zero within = refl
  never (suc c) within =
      let below : parent_at xs (suc c) < suc c = tree.ordered (suc c) (omega arith) within in
      and_right (nat_lt 0 (suc c)) (parent_at xs (suc c) == length xs) (ne_eqb (parent_at xs (suc c)) (length xs) (λ is. omega arith))

not_or : (a b : Bool) → not (a || b) ≡ (not a && not b)
not_or true b = refl
not_or false b = refl

added-leaves : (xs : List Node) (o : Obligation) → IsTree xs → o.parent < length xs → leaf_numbers (xs ++ fresh o ∷ []) ≡ filter (λ leaf. not (o.parent == leaf)) (leaf_numbers xs) ++ length xs ∷ []
added-leaves xs o tree below =
    let n = length xs in
    let ys = xs ++ fresh o ∷ [] in
    let is_leaf : ℕ → Bool = λ i. not (has_live_child ys i) in
    let was_leaf : ℕ → Bool = λ i. not (has_live_child xs i) in
    let other : ℕ → Bool = λ i. not (o.parent == i) in
    let old : filter is_leaf (live_numbers xs) ≡ filter other (leaf_numbers xs) =
    filter-same is_leaf (λ i. was_leaf i && other i) (live_numbers xs) (λ i. ap not (added-child xs o i tree.some) ∙ not_or (has_live_child xs i) (o.parent == i))
    ∙ sym (filter-filter was_leaf other (live_numbers xs)) in
    let none : has_live_child ys n ≡ false = added-child xs o n tree.some ∙ ap (λ b. b || o.parent == n) (no-child xs tree) ∙ ne_eqb o.parent n (λ is. omega arith) in
    let new : filter is_leaf (n ∷ []) ≡ n ∷ [] = ap (λ b. cond (not b) (n ∷ []) []) none in
    ap (λ ns. filter is_leaf ns) (added-live xs o)
    ∙ filter-append is_leaf (live_numbers xs) (n ∷ [])
    ∙ ap (λ ns. ns ++ filter is_leaf (n ∷ [])) old
    ∙ ap (λ ns. filter other (leaf_numbers xs) ++ ns) new

-- which obligation a number has after one more came
at_either : (xs : List Node) (o : Obligation) (i : ℕ) → i < length (xs ++ fresh o ∷ []) → (i < length xs) ⊎ (i ≡ length xs)
at_either xs o i within =
    let long : length (xs ++ fresh o ∷ []) ≡ length xs + 1 = length_push xs (fresh o) in
    ⊎_elim (λ h. inl h) (λ h. inr (omega arith)) (cases_lt i (length xs))

added-tree : (xs : List Node) (o : Obligation) → IsTree xs → is_live_at xs o.parent ≡ true → is_some o.pred ≡ true → IsTree (xs ++ fresh o ∷ [])
added-tree xs o tree live asked = record {
  some = (let some = tree.some in let long = length_push xs (fresh o) in omega arith);
  rooted = (let first = ap (λ m. m.obligation) (old-at xs o 0 tree.some) in first ∙ tree.rooted ∙ ap (λ q. root q.level) (sym first));
  others = λ i above within. ⊎_elim (λ old. ap (λ m. is_some m.obligation.pred) (old-at xs o i old) ∙ tree.others i above old) (new-asks i) (at_either xs o i within);
  ordered = λ i above within. ⊎_elim (old-order i above) (new-order i) (at_either xs o i within);
  hung = λ i is. ⊎_elim (old-hung i is) (new-hung i) (at_either xs o i (live-within ys i is));
} where
  ys : List Node
  ys = xs ++ fresh o ∷ []

  below : o.parent < length xs
  below = live-within xs o.parent live

  new-asks : (i : ℕ) → i ≡ length xs → is_some (node_at (xs ++ fresh o ∷ []) i).obligation.pred ≡ true
  new-asks i is = ap (λ j. is_some (node_at (xs ++ fresh o ∷ []) j).obligation.pred) is ∙ ap (λ m. is_some m.obligation.pred) (new-at xs o) ∙ asked

  old-order : (i : ℕ) → 0 < i → i < length xs → parent_at (xs ++ fresh o ∷ []) i < i
  old-order i above within = subst (λ m. m.obligation.parent < i) (sym (old-at xs o i within)) (tree.ordered i above within)

  new-order : (i : ℕ) → i ≡ length xs → parent_at (xs ++ fresh o ∷ []) i < i
  new-order i is = subst (λ j. parent_at (xs ++ fresh o ∷ []) j < j) (sym is) (subst (λ m. m.obligation.parent < length xs) (sym (new-at xs o)) below)

  stays : (p : ℕ) → is_live_at xs p ≡ true → is_live_at (xs ++ fresh o ∷ []) p ≡ true
  stays p is = ap is_live (old-at xs o p (live-within xs p is)) ∙ is

  old-hung : (i : ℕ) → is_live_at (xs ++ fresh o ∷ []) i ≡ true → i < length xs → is_live_at (xs ++ fresh o ∷ []) (parent_at (xs ++ fresh o ∷ []) i) ≡ true
  old-hung i is within =
      let at = old-at xs o i within in
      ap (λ m. is_live_at (xs ++ fresh o ∷ []) m.obligation.parent) at ∙ stays (parent_at xs i) (tree.hung i (ap is_live (sym at) ∙ is))

  new-hung : (i : ℕ) → i ≡ length xs → is_live_at (xs ++ fresh o ∷ []) (parent_at (xs ++ fresh o ∷ []) i) ≡ true
  new-hung i is =
      ap (λ j. is_live_at (xs ++ fresh o ∷ []) (parent_at (xs ++ fresh o ∷ []) j)) is
      ∙ ap (λ m. is_live_at (xs ++ fresh o ∷ []) m.obligation.parent) (new-at xs o) ∙ stays o.parent live

pub kept-added : (xs : List Node) (index next : Index) (o : Obligation) → is_live_at xs o.parent ≡ true → is_some o.pred ≡ true
    → next.live.items ≡ index.live.items ++ length xs ∷ [] → next.leaves.items ≡ filter (λ leaf. not (o.parent == leaf)) index.leaves.items ++ length xs ∷ []
    → IsKept xs index → IsKept (xs ++ fresh o ∷ []) next
kept-added xs index next o live asked lives leaves kept = record {
  tree = added-tree xs o kept.tree live asked;
  live = lives ∙ ap (λ ns. ns ++ length xs ∷ []) kept.live ∙ sym (added-live xs o);
  leaves = leaves ∙ ap (λ ns. filter (λ leaf. not (o.parent == leaf)) ns ++ length xs ∷ []) kept.leaves ∙ sym (added-leaves xs o kept.tree (live-within xs o.parent live));
}

-- only the root has another level
pub root_at-others : (level : ℕ) (xs : List Node) (i : ℕ) → 0 < i → node_at (root_at level xs) i ≡ node_at xs i
root_at-others level [] i above = refl
root_at-others level (x ∷ xs) zero above = absurd (omega arith)
root_at-others level (x ∷ xs) (suc i) above = refl

pub root_at-live : (level : ℕ) (xs : List Node) (i : ℕ) → is_live_at (root_at level xs) i ≡ is_live_at xs i
root_at-live level [] i = refl
root_at-live level (x ∷ xs) zero = refl
root_at-live level (x ∷ xs) (suc i) = refl

pub root_at-root : (level : ℕ) (xs : List Node) → 0 < length xs → (node_at xs 0).obligation ≡ root (node_at xs 0).obligation.level → (node_at (root_at level xs) 0).obligation ≡ root level
root_at-root level [] some rooted = absurd (omega arith)
root_at-root level (x ∷ xs) some rooted = ap (λ (o : Obligation). record o { level = level }) rooted
