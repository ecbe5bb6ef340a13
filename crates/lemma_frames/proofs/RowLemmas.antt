-- Rows in order: by level downwards, and within a level by number upwards.
use Rattle.std.proofs.Common.{◌≡◌, ℕ, zero, suc, ◌+◌, ◌-◌, ◌<◌, ◌≤◌, List, [], ◌∷◌, length, get_or, take, refl, ap, sym, subst, ◌∙◌, arith, length-take, inl, inr}
use Rattle.std.specs.Prelude.{◌⊎◌}
use Rattle.std.specs.List.{AllPairs, Contains, insert, remove}
use Rattle.std.proofs.lemmas.Bool.{cases_lt, cases_order}
use Rattle.std.proofs.lemmas.List.{get_or-take, get_or_default}
use Rattle.std.proofs.lemmas.List.Edits.{length-insert, get_or-insert_below, get_or-insert_at, get_or-insert_above, length-remove, get_or-remove_below, get_or-remove_above}
use Rattle.std.proofs.lemmas.List.Sorted.{IsPermutation-insert, IsPermutation-remove, IsPermutation-sym, Contains-permutation}
use Rattle.std.proofs.lemmas.List.Elements.{Contains-append_cases, Contains-append_right, Contains-get_or}
use Rattle.lemma_frames.specs.machinery.Rows.{IsBefore, IsBehind, IsRank}

-- x precedes y
abbrev pub Before : (ℕ → ℕ) → ℕ → ℕ → Type 0
Before L x y = (L y ≤ L x) × (L x ≡ L y → x < y)

-- what is true of each pair after an insert
pub pairs_insert : {X : Type 0} (R : X → X → Type 0) (xs : List X) (i : ℕ) (y : X) → AllPairs R xs → i ≤ length xs
    → ((k : ℕ) (d : X) → k < i → R (get_or xs k d) y) → ((k : ℕ) (d : X) → i ≤ k → k < length xs → R y (get_or xs k d)) → AllPairs R (insert xs i y)
pairs_insert R xs i y pairs within below above a b d less in' = by (cases_order a i) (cases_order b i) where
  long : length (insert xs i y) ≡ length xs + 1
  long = length-insert xs i y within

  low : (k : ℕ) → k < i → get_or (insert xs i y) k d ≡ get_or xs k d
  low k l = get_or-insert_below xs i y d k l within

  at : (k : ℕ) → k ≡ i → get_or (insert xs i y) k d ≡ y
  at k is = ap (λ m. get_or (insert xs i y) m d) is ∙ get_or-insert_at xs i y d within

  high : (k : ℕ) → i < k → get_or (insert xs i y) k d ≡ get_or xs (k - 1) d
  high k l =
      let is : k ≡ k - 1 + 1 = omega arith in
      ap (λ m. get_or (insert xs i y) m d) is ∙ get_or-insert_above xs i y d (k - 1) (omega arith) within

  by : (a ≡ i) ⊎ ((a < i) ⊎ (i < a)) → (b ≡ i) ⊎ ((b < i) ⊎ (i < b)) → R (get_or (insert xs i y) a d) (get_or (insert xs i y) b d)
  by (inl p) (inl q) = absurd (omega arith)
  by (inl p) (inr (inl q)) = absurd (omega arith)
  by (inl p) (inr (inr q)) = rw (at a p, high b q) (above (b - 1) d (omega arith) (omega (arith, long)))
  by (inr (inl p)) (inl q) = rw (low a p, at b q) (below a d p)
  by (inr (inl p)) (inr (inl q)) = rw (low a p, low b q) (pairs a b d less (omega arith))
  by (inr (inl p)) (inr (inr q)) = rw (low a p, high b q) (pairs a (b - 1) d (omega arith) (omega (arith, long)))
  by (inr (inr p)) (inl q) = absurd (omega arith)
  by (inr (inr p)) (inr (inl q)) = absurd (omega arith)
  by (inr (inr p)) (inr (inr q)) = rw (high a p, high b q) (pairs (a - 1) (b - 1) d (omega arith) (omega (arith, long)))

-- what is true of each pair of a prefix
pub pairs_take : {X : Type 0} (R : X → X → Type 0) (n : ℕ) (xs : List X) → AllPairs R xs → AllPairs R (take n xs)
pairs_take R n xs pairs a b d less in' =
    let short = length-take n xs in
    let near : b < n = omega (arith, short) in
    let far : b < length xs = omega (arith, short) in
    rw (get_or-take n xs a d (omega arith), get_or-take n xs b d near) (pairs a b d less far)

-- where a pair of members stands matters only through the relation
pub pairs_weaker : {X : Type 0} (R S : X → X → Type 0) (xs : List X) → ((x y : X) → Contains xs x → Contains xs y → R x y → S x y) → AllPairs R xs → AllPairs S xs
pairs_weaker R S xs weaker pairs a b d less in' =
    weaker (get_or xs a d) (get_or xs b d) (Contains-get_or xs a d (omega arith)) (Contains-get_or xs b d in') (pairs a b d less in')

-- members after an insert
pub inserted : {X : Type 0} (xs : List X) (i : ℕ) (y z : X) → Contains (insert xs i y) z → (y ≡ z) ⊎ Contains xs z
inserted xs i y z has = by (Contains-append_cases (y ∷ []) xs z (Contains-permutation (insert xs i y) (y ∷ xs) z (IsPermutation-sym (y ∷ xs) (insert xs i y) (IsPermutation-insert xs i y)) has)) where
  by : Contains (y ∷ []) z ⊎ Contains xs z → (y ≡ z) ⊎ Contains xs z
  by (inl (zero, l, is)) = inl is
  by (inl (suc k, l, is)) = absurd (omega arith)
  by (inr there) = inr there

pub insert_has : {X : Type 0} (xs : List X) (i : ℕ) (y : X) → Contains (insert xs i y) y
insert_has xs i y = Contains-permutation (y ∷ xs) (insert xs i y) y (IsPermutation-insert xs i y) (0, omega arith, refl)

pub insert_keeps : {X : Type 0} (xs : List X) (i : ℕ) (y z : X) → Contains xs z → Contains (insert xs i y) z
insert_keeps xs i y z has = Contains-permutation (y ∷ xs) (insert xs i y) z (IsPermutation-insert xs i y) (Contains-append_right (y ∷ []) xs z has)

-- members after one of distinct numbers is removed
pub removed : (R : ℕ → ℕ → Type 0) (xs : List ℕ) (i y z : ℕ) → ((x : ℕ) → R x x → ⊥) → AllPairs R xs → i < length xs → get_or xs i 0 ≡ y → Contains (remove xs i) z → Contains xs z × (z ≡ y → ⊥)
removed R xs i y z strict pairs within at (k, l, is) = by (cases_lt k i) where
  long : length (remove xs i) + 1 ≡ length xs
  long = length-remove xs i within

  -- z stands at another place too
  found : (j : ℕ) → j < length xs → (j ≡ i → ⊥) → get_or xs j z ≡ z → Contains xs z × (z ≡ y → ⊥)
  found j in' other here = ((j, in', here), λ same. apart (cases_order j i) same) where
    mine : get_or xs i z ≡ y
    mine = get_or_default xs i z 0 within ∙ at

    apart : (j ≡ i) ⊎ ((j < i) ⊎ (i < j)) → z ≡ y → ⊥
    apart (inl e) same = other e
    apart (inr (inl e)) same = strict z (subst (λ x. R x z) here (subst (λ x. R (get_or xs j z) x) (mine ∙ sym same) (pairs j i z e within)))
    apart (inr (inr e)) same = strict z (subst (λ x. R x z) (mine ∙ sym same) (subst (λ x. R (get_or xs i z) x) here (pairs i j z e in')))

  by : (k < i) ⊎ (i ≤ k) → Contains xs z × (z ≡ y → ⊥)
  by (inl less) = found k (omega (arith, long)) (λ e. absurd (omega arith)) (sym (get_or-remove_below xs i z k less within) ∙ is)
  by (inr more) = found (k + 1) (omega (arith, long)) (λ e. absurd (omega arith)) (sym (get_or-remove_above xs i z k more within) ∙ is)

pub remove_keeps : (xs : List ℕ) (i y z : ℕ) → i < length xs → get_or xs i 0 ≡ y → (z ≡ y → ⊥) → Contains xs z → Contains (remove xs i) z
remove_keeps xs i y z within at other has = by (Contains-append_cases (get_or xs i 0 ∷ []) (remove xs i) z (Contains-permutation xs (get_or xs i 0 ∷ remove xs i) z (IsPermutation-remove xs i (get_or xs i 0) within (get_or_default xs i 0 (get_or xs i 0) within)) has)) where
  by : Contains (get_or xs i 0 ∷ []) z ⊎ Contains (remove xs i) z → Contains (remove xs i) z
  by (inl (zero, l, is)) = absurd (other (sym is ∙ at))
  by (inl (suc k, l, is)) = absurd (omega arith)
  by (inr there) = there

pub strict : (L : ℕ → ℕ) (x : ℕ) → Before L x x → ⊥
strict L x b = let less = b.1 refl in omega arith

-- the place of a member is its rank
pub rank_at : (L : ℕ → ℕ) (row : List ℕ) (id rank : ℕ) → AllPairs (Before L) row → IsRank L row (L id) id rank → Contains row id → (rank < length row) × (get_or row rank 0 ≡ id)
rank_at L row id rank pairs is (k, in', here) = by (cases_order k rank) where
  by : (k ≡ rank) ⊎ ((k < rank) ⊎ (rank < k)) → (rank < length row) × (get_or row rank 0 ≡ id)
  by (inl e) = (omega arith, get_or_default row rank 0 id (omega arith) ∙ ap (λ m. get_or row m id) (sym e) ∙ here)
  by (inr (inl e)) =
      let before : IsBefore L (L id) id id = subst (λ x. IsBefore L (L id) id x) here (is.before k id e) in
      let less = before.1 refl in absurd (omega arith)
  by (inr (inr e)) =
      let x = get_or row rank id in
      let behind : IsBehind L (L id) id x = is.behind rank id (omega arith) (omega arith) in
      let pair : Before L x id = subst (λ y. Before L x y) here (pairs rank k id e in') in
      let same : L x ≡ L id = (let u = behind.0 in let v = pair.0 in omega arith) in
      let u : id ≤ x = behind.1 same in
      let v : x < id = pair.1 same in
      absurd (omega arith)

-- one more in its place
pub row_insert : (L : ℕ → ℕ) (row : List ℕ) (id rank : ℕ) → AllPairs (Before L) row → IsRank L row (L id) id rank → (Contains row id → ⊥) → AllPairs (Before L) (insert row rank id)
row_insert L row id rank pairs is fresh = pairs_insert (Before L) row rank id pairs is.within (λ k d l. is.before k d l) above where
  above : (k d : ℕ) → rank ≤ k → k < length row → Before L id (get_or row k d)
  above k d l m =
      let b = is.behind k d l m in
      let has = Contains-get_or row k d m in
      (b.0, λ same. less (cases_order id (get_or row k d)) (b.1 (sym same)) has) where
        less : {x : ℕ} → (id ≡ x) ⊎ ((id < x) ⊎ (x < id)) → id ≤ x → Contains row x → id < x
        less (inl e) le has = absurd (fresh (subst (λ y. Contains row y) (sym e) has))
        less (inr (inl e)) le has = e
        less (inr (inr e)) le has = absurd (omega arith)

-- an order of numbers whose levels stay
pub row_same : (L M : ℕ → ℕ) (row : List ℕ) → ((x : ℕ) → Contains row x → L x ≡ M x) → AllPairs (Before L) row → AllPairs (Before M) row
row_same L M row same = pairs_weaker (Before L) (Before M) row (λ x y hx hy b. (let p = same x hx in let q = same y hy in let r = b.0 in (omega arith, λ e. b.1 (p ∙ e ∙ sym q))))

-- ranks go by levels alone
pub rank_same : (L M : ℕ → ℕ) (row : List ℕ) (level number rank : ℕ) → ((x : ℕ) → Contains row x → L x ≡ M x) → IsRank L row level number rank → IsRank M row level number rank
rank_same L M row level number rank same is = record {
  within = is.within;
  before = λ k d l. (let m = is.within in let e = same (get_or row k d) (Contains-get_or row k d (omega arith)) in let b = is.before k d l in let u = b.0 in (omega arith, λ s. b.1 (e ∙ s)));
  behind = λ k d l m. (let e = same (get_or row k d) (Contains-get_or row k d m) in let b = is.behind k d l m in let u = b.0 in (omega arith, λ s. b.1 (e ∙ s)));
}

-- a prefix has exactly the members of this level or more
pub prefix_has : (L : ℕ → ℕ) (row : List ℕ) (level rank x : ℕ) → IsRank L row level 0 rank → Contains (take rank row) x → Contains row x × (level + 1 ≤ L x)
prefix_has L row level rank x is (k, in', here) =
    let short = length-take rank row in
    let near : k < rank = omega (arith, short) in
    let far : k < length row = omega (arith, short) in
    let at : get_or row k x ≡ x = sym (get_or-take rank row k x near) ∙ here in
    let b : IsBefore L level 0 x = subst (λ y. IsBefore L level 0 y) at (is.before k x near) in
    ((k, far, at), more b (cases_order (L x) level)) where
      more : IsBefore L level 0 x → (L x ≡ level) ⊎ ((L x < level) ⊎ (level < L x)) → level + 1 ≤ L x
      more b (inl e) = let none = b.1 e in absurd (omega arith)
      more b (inr (inl e)) = let m = b.0 in absurd (omega arith)
      more b (inr (inr e)) = omega arith

pub has_prefix : (L : ℕ → ℕ) (row : List ℕ) (level rank x : ℕ) → IsRank L row level 0 rank → Contains row x → level + 1 ≤ L x → Contains (take rank row) x
has_prefix L row level rank x is (k, in', here) more = by (cases_lt k rank) where
  by : (k < rank) ⊎ (rank ≤ k) → Contains (take rank row) x
  by (inl near) = (k, (let short = length-take rank row in omega (arith, short)), get_or-take rank row k x near ∙ here)
  by (inr far) =
      let b : IsBehind L level 0 x = subst (λ y. IsBehind L level 0 y) here (is.behind k x far in') in
      let u = b.0 in absurd (omega arith)

-- one step of the search: what stands in the middle tells of all on its side
pub rank_low : (L : ℕ → ℕ) (row : List ℕ) (level number middle : ℕ) → AllPairs (Before L) row → middle < length row → IsBefore L level number (get_or row middle 0)
    → (k d : ℕ) → k < middle + 1 → IsBefore L level number (get_or row k d)
rank_low L row level number middle pairs within b k d l = by (cases_lt k middle) where
  mine : get_or row middle d ≡ get_or row middle 0
  mine = get_or_default row middle d 0 within

  b' : IsBefore L level number (get_or row middle d)
  b' = subst (λ y. IsBefore L level number y) (sym mine) b

  by : (k < middle) ⊎ (middle ≤ k) → IsBefore L level number (get_or row k d)
  by (inl less) =
      let pair : Before L (get_or row k d) (get_or row middle d) = pairs k middle d less within in
      let u = pair.0 in let v = b'.0 in
      (omega arith, λ e. (let same : L (get_or row k d) ≡ L (get_or row middle d) = omega arith in let p = pair.1 same in let q = b'.1 (sym same ∙ e) in omega arith))
  by (inr more) = let same : middle ≡ k = omega arith in subst (λ m. IsBefore L level number (get_or row m d)) same b'

pub rank_high : (L : ℕ → ℕ) (row : List ℕ) (level number middle : ℕ) → AllPairs (Before L) row → middle < length row → IsBehind L level number (get_or row middle 0)
    → (k d : ℕ) → middle ≤ k → k < length row → IsBehind L level number (get_or row k d)
rank_high L row level number middle pairs within b k d l in' = by (cases_lt middle k) where
  mine : get_or row middle d ≡ get_or row middle 0
  mine = get_or_default row middle d 0 within

  b' : IsBehind L level number (get_or row middle d)
  b' = subst (λ y. IsBehind L level number y) (sym mine) b

  by : (middle < k) ⊎ (k ≤ middle) → IsBehind L level number (get_or row k d)
  by (inl less) =
      let pair : Before L (get_or row middle d) (get_or row k d) = pairs middle k d less in' in
      let u = pair.0 in let v = b'.0 in
      (omega arith, λ e. (let same : L (get_or row middle d) ≡ L (get_or row k d) = omega arith in let p = pair.1 same in let q = b'.1 (same ∙ e) in omega arith))
  by (inr more) = let same : middle ≡ k = omega arith in subst (λ m. IsBehind L level number (get_or row m d)) same b'
