-- One more term of a list.
use Rattle.std.proofs.Common.{◌≡◌, ℕ, zero, suc, ◌+◌, ◌^◌, ◌<◌, ◌≤◌, List, [], ◌∷◌, ◌++◌, length, take, get_or, refl, ap, sym, ◌∙◌, subst, arith}
use Rattle.std.proofs.lemmas.List.{take_all, take_more}
use Rattle.std.proofs.lemmas.List.Sums.{sum_by-append, sum_by-cons, sum_by-take-le}
use Rattle.std.specs.List.{sum_by}
use Rattle.term_tree.specs.declared.node.TermId.{TermId}
use Rattle.term_tree.specs.declared.node.Node.{Node}
use Rattle.interpretations.specs.Terms.{Each}
use Rattle.interpretations.specs.machinery.Added.{AreAdded, IsAdded}
use Rattle.interpretations.proofs.AddedLemmas.{are-there-then, below-push, grown-most, grown-none, grown-then, grown-weaker, stays}

each-push : {X : Type 0} (R : X → TermId → Type 0) (xs : List X) (ids : List TermId) (x : X) (id : TermId) → Each R xs ids → R x id → Each R (xs ++ x ∷ []) (ids ++ id ∷ [])
each-push R [] [] x id each here = (here, tt)
each-push R [] (k ∷ ids) x id each here = absurd each
each-push R (y ∷ xs) [] x id each here = absurd each
each-push R (y ∷ xs) (k ∷ ids) x id each here = (each.0, each-push R xs ids x id each.1 here)

module _ {X : Type 0} (R : List Node → X → TermId → Type 0) where
  abbrev pub Terms : List X → List Node → List TermId → Type 0
  Terms xs nodes ids = Each (R nodes) xs ids

  pub none-added : (s : List Node) (ids : List TermId) → ids ≡ [] → AreAdded (Terms []) 0 s s ids
  none-added s [] is = record { grown = grown-none s; there = refl; are = λ later. tt }
  none-added s (id ∷ ids) is = absurd (cc)

  pushed-added : (a b c : ℕ) (s t u : List Node) (xs : List X) (ids : List TermId) (x : X) (id : TermId) → a + b ≤ c → AreAdded (Terms xs) a s t ids
      → IsAdded (λ nodes k. R nodes x k) b t u id → AreAdded (Terms (xs ++ x ∷ [])) c s u (ids ++ id ∷ [])
  pushed-added a b c s t u xs ids x id le first second = record {
    grown = grown-weaker (a + b) c s u le (grown-then a b s t u first.grown second.grown);
    there = below-push (length u) ids id (are-there-then (Terms xs) a b s t u ids first second.grown) second.there;
    are = λ later. each-push (R (u ++ later)) xs ids x id (stays (λ (ns : List Node). Terms xs ns ids) b t u second.grown first.are later) (second.is later);
  }

  pub more-added : (a b c : ℕ) (s t u : List Node) (xs : List X) (i : ℕ) (ids new : List TermId) (x : X) (id : TermId) → i < length xs → x ≡ get_or xs i x → new ≡ ids ++ id ∷ [] → a + b ≤ c
      → AreAdded (Terms (take i xs)) a s t ids → IsAdded (λ nodes k. R nodes x k) b t u id → AreAdded (Terms (take (i + 1) xs)) c s u new
  more-added a b c s t u xs i ids new x id within is are le first second =
      let longer : take i xs ++ x ∷ [] ≡ take (i + 1) xs = ap (λ (y : X). take i xs ++ y ∷ []) is ∙ sym (take_more xs i x within) in
      subst (λ (ids' : List TermId). AreAdded (Terms (take (i + 1) xs)) c s u ids') (sym are)
      (subst (λ (ys : List X). AreAdded (Terms ys) c s u (ids ++ id ∷ [])) longer (pushed-added a b c s t u (take i xs) ids x id le first second))

  pub all-added : (a b : ℕ) (s t : List Node) (xs : List X) (i : ℕ) (ids : List TermId) → length xs ≤ i → a ≤ b → AreAdded (Terms (take i xs)) a s t ids → AreAdded (Terms xs) b s t ids
  all-added a b s t xs i ids past le added = subst (λ (ys : List X). AreAdded (Terms ys) b s t ids) (take_all i xs past)
      (record { grown = grown-weaker a b s t le added.grown; there = added.there; are = added.are })

-- the item at a place is itself there, whatever stands for one that isn't
pub item-same : {X : Type 0} (xs : List X) (i : ℕ) (other : X) → i < length xs → get_or xs i other ≡ get_or xs i (get_or xs i other)
item-same [] i other within = absurd (omega (arith, within))
item-same (x ∷ xs) zero other within = refl
item-same (x ∷ xs) (suc i) other within = item-same xs i other (omega (arith, within))

-- sizes

pub size-more : {X : Type 0} (size : X → ℕ) (xs : List X) (i : ℕ) (x : X) → i < length xs → x ≡ get_or xs i x → sum_by size (take i xs) + size x ≡ sum_by size (take (i + 1) xs)
size-more {X} size xs i x within is =
    let longer : take (i + 1) xs ≡ take i xs ++ x ∷ [] = take_more xs i x within ∙ ap (λ (y : X). take i xs ++ y ∷ []) (sym is) in
    omega (arith, ap (sum_by size) longer, sum_by-append size (take i xs) (x ∷ []), sum_by-cons size x [], nothing size)
  where
    nothing : {X : Type 0} (size : X → ℕ) → sum_by size [] ≡ 0
    nothing size = refl

-- where the next one has no number, all together have none
pub full-size : {X : Type 0} (K : List Node → List TermId → Type 0) (size : X → ℕ) (s t : List Node) (xs : List X) (i : ℕ) (ids : List TermId) (x : X) → i < length xs → x ≡ get_or xs i x
    → AreAdded K (sum_by size (take i xs)) s t ids → 2 ^ 32 < length t + size x → 2 ^ 32 < length s + sum_by size xs
full-size K size s t xs i ids x within is added full =
    let most = grown-most (sum_by size (take i xs)) s t added.grown in
    let more = size-more size xs i x within is in
    let all = sum_by-take-le size xs (i + 1) in
    omega (arith, most, more, all, full)
