-- A list of a frame's lemmas, one number on.
use Rattle.std.proofs.Common.{◌≡◌, ℕ, ◌+◌, ◌<◌, ◌≤◌, List, [], ◌∷◌, ◌++◌, length, get_or, sym, subst, arith, inl, inr}
use Rattle.std.specs.Prelude.{◌⊎◌}
use Rattle.std.specs.List.{Contains}
use Rattle.std.proofs.lemmas.Bool.{cases_eq}
use Rattle.std.proofs.lemmas.List.Elements.{Contains-append_left, Contains-get_or, Contains-push, Contains-push_cases}
use Rattle.std.proofs.lemmas.List.Quantifiers.{all_pairs_push}
use Rattle.lemma_frames.specs.declared.framed.Framed.{Framed}
use Rattle.lemma_frames.specs.Frames.{IsInFrame, IsFrame}
use Rattle.lemma_frames.specs.machinery.Listing.{IsListed}

pub listed_none : (ls : List Framed) (pred k : ℕ) → IsListed ls pred k 0 []
listed_none ls pred k = record { order = λ i j d l in'. absurd (omega arith); exact = λ n. (λ has. none n has, λ both. (let l = both.0 in absurd (omega arith))) } where
  none : (n : ℕ) → Contains [] n → (n < 0) × IsInFrame ls pred k n
  none n (i, l, is) = absurd (omega arith)

pub listed_push : (ls : List Framed) (pred k i : ℕ) (numbers : List ℕ) → IsListed ls pred k i numbers → IsInFrame ls pred k i → IsListed ls pred k (i + 1) (numbers ++ i ∷ [])
listed_push ls pred k i numbers listed in' = record {
  order = all_pairs_push (λ x y. x < y) numbers i listed.order (λ j d l. ((listed.exact (get_or numbers j d)).0 (Contains-get_or numbers j d l)).0);
  exact = λ n. (λ has. front n (Contains-push_cases numbers i n has), λ both. back n both (cases_eq n i));
} where
  front : (n : ℕ) → Contains numbers n ⊎ (i ≡ n) → (n < i + 1) × IsInFrame ls pred k n
  front n (inl has) = (let both = (listed.exact n).0 has in (let l = both.0 in omega arith, both.1))
  front n (inr e) = (omega arith, subst (λ m. IsInFrame ls pred k m) e in')

  back : (n : ℕ) → (n < i + 1) × IsInFrame ls pred k n → (n ≡ i) ⊎ (n ≡ i → ⊥) → Contains (numbers ++ i ∷ []) n
  back n both (inl e) = subst (λ m. Contains (numbers ++ i ∷ []) m) (sym e) (Contains-push numbers i)
  back n both (inr other) = (let l = both.0 in Contains-append_left numbers (i ∷ []) n ((listed.exact n).1 (omega (arith, other), both.1)))

pub listed_skip : (ls : List Framed) (pred k i : ℕ) (numbers : List ℕ) → IsListed ls pred k i numbers → (IsInFrame ls pred k i → ⊥) → IsListed ls pred k (i + 1) numbers
listed_skip ls pred k i numbers listed out = record {
  order = listed.order;
  exact = λ n. (λ has. (let both = (listed.exact n).0 has in (let l = both.0 in omega arith, both.1)), λ both. back n both (cases_eq n i));
} where
  back : (n : ℕ) → (n < i + 1) × IsInFrame ls pred k n → (n ≡ i) ⊎ (n ≡ i → ⊥) → Contains numbers n
  back n both (inl e) = absurd (out (subst (λ m. IsInFrame ls pred k m) e both.1))
  back n both (inr other) = (let l = both.0 in (listed.exact n).1 (omega (arith, other), both.1))

pub listed_all : (ls : List Framed) (pred k i : ℕ) (numbers : List ℕ) → length ls ≤ i → IsListed ls pred k i numbers → IsFrame ls pred k numbers
listed_all ls pred k i numbers past listed = record { order = listed.order; exact = λ n. (λ has. ((listed.exact n).0 has).1, λ in'. (listed.exact n).1 ((let l = in'.0 in omega arith), in')) }
