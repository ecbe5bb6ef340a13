-- The part of a row whose tuples begin with given values.
use Rattle.std.proofs.Common.{◌≡◌, ℕ, true, false, ◌+◌, ◌-◌, ◌<◌, ◌≤◌, List, [], ◌∷◌, length, get_or, take, drop, refl, ap, ap₂, sym, subst, ◌∙◌, arith, inl, inr}
use Rattle.std.specs.Prelude.{ℤ, ◌⊎◌, ◌≢◌, ◌↔◌}
use Rattle.std.specs.List.{AllPairs, Contains, starts_with}
use Rattle.std.specs.Ordering.{int_cmp, int_eq, ordering_reverse, ordering_then}
use Rattle.std.specs.declared.cmp.Ordering.{Ordering}
use Rattle.std.specs.declared.cmp.Ordering.TheVariants.{Less, Equal, Greater}
use Rattle.std.specs.Cmp.{int_cmp_total}
use Rattle.std.specs.Cmp.Lexicographic.{slice_cmp}
use Rattle.std.specs.Cmp.Rules.{signed_items}
use Rattle.std.specs.FinMap.{int_cmp-IsAntisymmetric}
use Rattle.std.proofs.lemmas.Bool.{cases_lt}
use mathlib.Core.Bool.{true≢false}
use Rattle.std.proofs.lemmas.List.{get_or_default, get_or-drop, get_or-take, length-drop, length-take-le}
use Rattle.derivations.specs.machinery.Index.{Begins, IsBelow, IsRank, IsRun}

-- a number is neither before nor behind itself
itself : (x : ℤ) → int_cmp x x ≡ Equal
itself x = by (int_cmp x x) refl where
  by : (o : Ordering) → int_cmp x x ≡ o → int_cmp x x ≡ Equal
  by Less is = (let other : Less ≡ Greater = sym is ∙ int_cmp_total.antisymm x x ∙ ap ordering_reverse is in absurd (cc))
  by Equal is = is
  by Greater is = (let other : Greater ≡ Less = sym is ∙ int_cmp_total.antisymm x x ∙ ap ordering_reverse is in absurd (cc))

first_is : (x y : ℤ) (xs ys : List ℤ) → x ∷ xs ≡ y ∷ ys → x ≡ y
first_is x y xs ys e = cc

rest_is : (x y : ℤ) (xs ys : List ℤ) → x ∷ xs ≡ y ∷ ys → xs ≡ ys
rest_is x y xs ys e = cc

-- what begins with values doesn't stand before them
pub not_before : (front t : List ℤ) → Begins front t → slice_cmp int_cmp t front ≡ Less → ⊥
not_before [] [] begins less = absurd (cc)
not_before [] (x ∷ t) begins less = absurd (cc)
not_before (f ∷ fs) [] begins less = absurd (cc)
not_before (f ∷ fs) (x ∷ t) begins less =
    let same : int_cmp x f ≡ Equal = ap (λ y. int_cmp y f) (first_is x f (take (length fs) t) fs begins) ∙ itself f in
    not_before fs t (rest_is x f (take (length fs) t) fs begins) (ap (λ o. ordering_then o (slice_cmp int_cmp t fs)) (sym same) ∙ less)

-- behind a tuple that isn't before the values and doesn't begin with them, none begins with them
pub not_behind : (front s t : List ℤ) → (slice_cmp int_cmp s front ≢ Less) → (Begins front s → ⊥) → slice_cmp int_cmp s t ≡ Less → Begins front t → ⊥
not_behind [] s t late other less begins = other refl
not_behind (f ∷ fs) [] t late other less begins = late refl
not_behind (f ∷ fs) (x ∷ s) [] late other less begins = absurd (cc)
not_behind (f ∷ fs) (x ∷ s) (y ∷ t) late other less begins = by (int_cmp x f) refl (not_behind fs s t) where
  first : y ≡ f
  first = first_is y f (take (length fs) t) fs begins

  rest : take (length fs) t ≡ fs
  rest = rest_is y f (take (length fs) t) fs begins

  ordered : (o : Ordering) → int_cmp x f ≡ o → ordering_then o (slice_cmp int_cmp s t) ≡ Less
  ordered o is = ap (λ p. ordering_then p (slice_cmp int_cmp s t)) (sym (ap (int_cmp x) first ∙ is)) ∙ less

  by : (o : Ordering) → int_cmp x f ≡ o → ((slice_cmp int_cmp s fs ≢ Less) → (Begins fs s → ⊥) → slice_cmp int_cmp s t ≡ Less → Begins fs t → ⊥) → ⊥
  by Less is later = late (ap (λ o. ordering_then o (slice_cmp int_cmp s fs)) is)
  by Equal is later =
      let same : x ≡ f = int_cmp-IsAntisymmetric x f is in
      later (λ h. late (ap (λ o. ordering_then o (slice_cmp int_cmp s fs)) is ∙ h)) (λ h. other (ap₂ (λ (z : ℤ) (zs : List ℤ). z ∷ zs) same h)) (ordered Equal is) rest
  by Greater is later = (let greater : Greater ≡ Less = ordered Greater is in absurd (cc))

-- what a test of the front tells
pub begins_so : (front tuple : List ℤ) → starts_with int_eq tuple front ≡ true → Begins front tuple
begins_so front tuple is = sym ((signed_items front (take (length front) tuple)).0 is)

pub begins_not : (front tuple : List ℤ) → starts_with int_eq tuple front ≡ false → Begins front tuple → ⊥
begins_not front tuple isnt begins = true≢false (sym ((signed_items front (take (length front) tuple)).1 (sym begins)) ∙ isnt)

-- one place more
pub run_more : (T : ℕ → List ℤ) (row : List ℕ) (front : List ℤ) (low high : ℕ) → ((k d : ℕ) → low ≤ k → k < high → Begins front (T (get_or row k d))) → high < length row → Begins front (T (get_or row high 0))
    → (k d : ℕ) → low ≤ k → k < high + 1 → Begins front (T (get_or row k d))
run_more T row front low high before within mine k d after less = by (cases_lt k high) where
  here : Begins front (T (get_or row high d))
  here = subst (λ n. Begins front (T n)) (get_or_default row high 0 d within) mine

  by : (k < high) ⊎ (high ≤ k) → Begins front (T (get_or row k d))
  by (inl low') = before k d after low'
  by (inr more) = (let same : high ≡ k = omega arith in subst (λ i. Begins front (T (get_or row i d))) same here)

-- a part of a row is in order where the row is
pub run_order : (R : ℕ → ℕ → Type 0) (row : List ℕ) (low high : ℕ) → low ≤ high → high ≤ length row → AllPairs R row → AllPairs R (take (high - low) (drop low row))
run_order R row low high after within pairs i j d less inside =
    subst (λ y. R (get_or (take (high - low) (drop low row)) i d) y) (sym (at j below)) (subst (λ x. R x (get_or row (low + j) d)) (sym (at i (omega (arith, less, below)))) (pairs (low + i) (low + j) d (omega arith) (omega (arith, below, after, within))))
  where
    long : length (take (high - low) (drop low row)) ≡ high - low
    long =
        let rest = length-drop low row in
        length-take-le (high - low) (drop low row) (omega (arith, rest, after, within))

    below : j < high - low
    below = omega (arith, inside, long)

    at : (k : ℕ) → k < high - low → get_or (take (high - low) (drop low row)) k d ≡ get_or row (low + k) d
    at k l = get_or-take (high - low) (drop low row) k d l ∙ get_or-drop low row k d

-- the run is what begins with the values
pub run_is : (T : ℕ → List ℤ) (row : List ℕ) (front : List ℤ) (low high : ℕ) → AllPairs (IsBelow T) row → IsRank T row front low → IsRun T row front low high
    → (n : ℕ) → Contains (take (high - low) (drop low row)) n ↔ (Contains row n × Begins front (T n))
run_is T row front low high pairs rank run n = (λ has. front_of has, λ both. back_of both.0 both.1) where
  long : length (take (high - low) (drop low row)) ≡ high - low
  long =
      let after = run.after in
      let within = run.within in
      let rest = length-drop low row in
      length-take-le (high - low) (drop low row) (omega arith)

  at : (k d : ℕ) → k < high - low → get_or (take (high - low) (drop low row)) k d ≡ get_or row (low + k) d
  at k d less = get_or-take (high - low) (drop low row) k d less ∙ get_or-drop low row k d

  front_of : Contains (take (high - low) (drop low row)) n → Contains row n × Begins front (T n)
  front_of (k, inside, is) =
      let less : k < high - low = omega (arith, inside, long) in
      let within = run.within in
      let here : get_or row (low + k) n ≡ n = sym (at k n less) ∙ is in
      ((low + k, omega arith, here), subst (λ m. Begins front (T m)) here (run.begins (low + k) n (omega arith) (omega arith)))

  back_of : Contains row n → Begins front (T n) → Contains (take (high - low) (drop low row)) n
  back_of (k, inside, is) begins = by (cases_lt k low) where
    mine : Begins front (T (get_or row k n))
    mine = subst (λ m. Begins front (T m)) (sym is) begins

    behind : (high ≡ k) ⊎ (high < k) → ⊥
    behind (inl e) = run.ends n (omega arith) (subst (λ m. Begins front (T (get_or row m n))) (sym e) mine)
    behind (inr less) =
        let after = run.after in
        not_behind front (T (get_or row high n)) (T (get_or row k n)) (rank.behind high n after (omega arith)) (run.ends n (omega arith)) (pairs high k n less inside) mine

    past : high ≤ k → (high ≡ k) ⊎ (high < k)
    past more = cases (cases_lt high k) where
      cases : (high < k) ⊎ (k ≤ high) → (high ≡ k) ⊎ (high < k)
      cases (inl less) = inr less
      cases (inr most) = inl (omega arith)

    inner : low ≤ k → (k < high) ⊎ (high ≤ k) → Contains (take (high - low) (drop low row)) n
    inner low' (inl less) =
        let sum : low + (k - low) ≡ k = omega arith in
        (k - low, omega (arith, long, low', less), at (k - low) n (omega (arith, low', less)) ∙ ap (λ m. get_or row m n) sum ∙ is)
    inner low' (inr more) = absurd (behind (past more))

    by : (k < low) ⊎ (low ≤ k) → Contains (take (high - low) (drop low row)) n
    by (inl less) = absurd (not_before front (T (get_or row k n)) mine (rank.before k n less))
    by (inr low') = inner low' (cases_lt k high)
