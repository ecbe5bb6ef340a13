-- Rows in order of tuple, by the first value that differs.
use Rattle.std.proofs.Common.{◌≡◌, ℕ, ◌+◌, ◌<◌, ◌≤◌, List, length, get_or, Some, None, true, false, refl, ap, sym, subst, ◌∙◌, arith, inl, inr}
use Rattle.std.specs.Prelude.{ℤ, ◌⊎◌, ◌≢◌, ◌↔◌}
use Rattle.std.specs.List.{AllPairs, Contains, insert}
use Rattle.std.specs.Ordering.{int_cmp, int_eq, ordering_reverse}
use Rattle.std.specs.declared.cmp.Ordering.{Ordering}
use Rattle.std.specs.declared.cmp.Ordering.TheVariants.{Less, Equal, Greater}
use Rattle.std.specs.Cmp.{IsTotalOrder, int_cmp_total}
use Rattle.std.specs.Cmp.Lexicographic.{slice_cmp, lists_total, pointwise}
use Rattle.std.specs.Cmp.Rules.{signed_items}
use Rattle.std.specs.FinMap.{slice_cmp-IsAntisymmetric, int_cmp-IsAntisymmetric}
use Rattle.std.proofs.lemmas.Bool.{cases_lt, cases_order}
use Rattle.std.proofs.lemmas.List.{get_or_default}
use Rattle.std.proofs.lemmas.List.Elements.{Contains-get_or}
use Rattle.derivations.specs.declared.fact.Fact.{Fact}
use Rattle.derivations.specs.Facts.{AreUnder, tuple_of}
use Rattle.derivations.specs.machinery.Index.{IsBelow, IsRank}
use Rattle.derivations.proofs.InsertLemmas.{pairs_insert}

total : IsTotalOrder (slice_cmp int_cmp)
total = lists_total int_cmp_total

-- a tuple doesn't stand before itself
not_itself : (t : List ℤ) → slice_cmp int_cmp t t ≡ Less → ⊥
not_itself t less = (let other : slice_cmp int_cmp t t ≡ Greater = total.antisymm t t ∙ ap ordering_reverse less in absurd (cc))

-- so in a row in order of tuple no number stands twice
pub none_twice : (facts : List Fact) (pred : ℕ) (front : List ℤ) (numbers : List ℕ) → AreUnder facts pred front numbers → AllPairs (λ m n. m ≢ n) numbers
none_twice facts pred front numbers under i j d less inside same =
    not_itself (tuple_of facts (get_or numbers i d)) (subst (λ m. slice_cmp int_cmp (tuple_of facts (get_or numbers i d)) (tuple_of facts m) ≡ Less) (sym same) (under.order i j d less inside))

-- of two different tuples one stands before the other
apart : (s t : List ℤ) → (slice_cmp int_cmp s t ≢ Less) → (s ≡ t → ⊥) → slice_cmp int_cmp t s ≡ Less
apart s t not_less other = total.antisymm t s ∙ by (slice_cmp int_cmp s t) refl where
  by : (o : Ordering) → slice_cmp int_cmp s t ≡ o → ordering_reverse (slice_cmp int_cmp s t) ≡ Less
  by Less is = absurd (not_less is)
  by Equal is = absurd (other (slice_cmp-IsAntisymmetric int_cmp-IsAntisymmetric s t is))
  by Greater is = ap ordering_reverse is

-- one step of the search
pub rank_low : (T : ℕ → List ℤ) (row : List ℕ) (tuple : List ℤ) (middle : ℕ) → AllPairs (IsBelow T) row → middle < length row → slice_cmp int_cmp (T (get_or row middle 0)) tuple ≡ Less
    → (k d : ℕ) → k < middle + 1 → slice_cmp int_cmp (T (get_or row k d)) tuple ≡ Less
rank_low T row tuple middle pairs within less k d l = by (cases_lt k middle) where
  mine : slice_cmp int_cmp (T (get_or row middle d)) tuple ≡ Less
  mine = subst (λ x. slice_cmp int_cmp (T x) tuple ≡ Less) (get_or_default row middle 0 d within) less

  by : (k < middle) ⊎ (middle ≤ k) → slice_cmp int_cmp (T (get_or row k d)) tuple ≡ Less
  by (inl before) = total.trans (T (get_or row k d)) (T (get_or row middle d)) tuple (pairs k middle d before within) mine
  by (inr more) = let same : middle ≡ k = omega arith in subst (λ m. slice_cmp int_cmp (T (get_or row m d)) tuple ≡ Less) same mine

pub rank_high : (T : ℕ → List ℤ) (row : List ℕ) (tuple : List ℤ) (middle : ℕ) → AllPairs (IsBelow T) row → middle < length row → (slice_cmp int_cmp (T (get_or row middle 0)) tuple ≢ Less)
    → (k d : ℕ) → middle ≤ k → k < length row → slice_cmp int_cmp (T (get_or row k d)) tuple ≢ Less
rank_high T row tuple middle pairs within not_less k d l in' less = by (cases_lt middle k) where
  mine : slice_cmp int_cmp (T (get_or row middle d)) tuple ≡ Less → ⊥
  mine h = not_less (subst (λ x. slice_cmp int_cmp (T x) tuple ≡ Less) (get_or_default row middle d 0 within) h)

  by : (middle < k) ⊎ (k ≤ middle) → ⊥
  by (inl after) = mine (total.trans (T (get_or row middle d)) (T (get_or row k d)) tuple (pairs middle k d after in') less)
  by (inr more) = let same : k ≡ middle = omega arith in mine (subst (λ m. slice_cmp int_cmp (T (get_or row m d)) tuple ≡ Less) same less)

-- one more in its place
pub row_insert : (T : ℕ → List ℤ) (row : List ℕ) (id rank : ℕ) → AllPairs (IsBelow T) row → IsRank T row (T id) rank → ((x : ℕ) → Contains row x → T x ≡ T id → ⊥) → AllPairs (IsBelow T) (insert row rank id)
row_insert T row id rank pairs is fresh = pairs_insert (IsBelow T) row rank id pairs is.within (λ k d l. is.before k d l)
    (λ k d l m. apart (T (get_or row k d)) (T id) (is.behind k d l m) (fresh (get_or row k d) (Contains-get_or row k d m)))
