-- A term that is found in the text of another one is no greater.
use Rattle.std.proofs.Common.{◌≡◌, ℕ, zero, suc, ◌<◌, ◌≤◌, List, [], ◌∷◌, length, Bool, true, false, inl, inr, sym, ◌∙◌, arith}
use Rattle.std.specs.Prelude.{slice_get, Option, Some, None, ℤ, nat_lt, ◌⊎◌, if◌then◌else◌}
use Rattle.std.specs.List.{list_all}
use Rattle.term_tree.specs.declared.node.TermId.{TermId}
use Rattle.term_tree.specs.declared.node.Node.{Node}
use Rattle.term_tree.specs.Arena.{IsArena, has_parts_below, is_below}
use Rattle.term_tree.proofs.Public.{arena_below, below_from, both_true, there_is}
use Rattle.linear_terms.specs.Linear.{Naming}
use Rattle.linear_terms.specs.Width.{first_among, first_of_two, first_where, text_parts}
use Rattle.term_forms.specs.Found.{is_wide}
use Rattle.term_forms.proofs.FoundLemmas.{first_at}
use Rattle.term_forms.proofs.ReadingLemmas.{all_below}
use Rattle.term_widths.specs.Wide.{first_wide_by, has_wide_sides}

one_of_two : (a b : Option ℕ) (k : ℕ) → first_of_two a b ≡ Some k → (a ≡ Some k) ⊎ (b ≡ Some k)
one_of_two None b k h = inr h
one_of_two (Some x) b k h = inl h

chosen_is : (b : Bool) (id k : ℕ) → (if b then Some id else None) ≡ Some k → id ≡ k
chosen_is true id k h = cc
chosen_is false id k h = absurd (cc)

among_found : (p : ℕ → Option ℕ) (n : ℕ) (ids : List TermId) (k : ℕ) → ((part : ℕ) → part < n → p part ≡ Some k → k ≤ part) → list_all (is_below n) ids ≡ true → first_among p ids ≡ Some k → k < n
among_found p n [] k each below h = absurd (cc)
among_found p n (id ∷ ids) k each below h =
    let both = both_true (nat_lt id.0 n) (list_all (is_below n) ids) below in
    let less : id.0 < n = below_from id.0 n both.0 in
    elim (one_of_two (p id.0) (first_among p ids) k h) [
      | inl one ↦ let most : k ≤ id.0 = each id.0 less one in omega (arith, most, less)
      | inr more ↦ among_found p n ids k each both.1 more
    ]

first_below : (test : ℕ → Bool) (nodes : List Node) → IsArena nodes → (n id k : ℕ) → id < n → id < length nodes → first_where test nodes id ≡ Some k → k ≤ id
first_below test nodes arena zero id k h within found = absurd (omega (arith, h))
first_below test nodes arena (suc n) id k h within found =
    let has = there_is nodes id within in
    let node : Node = has.0 in
    let is : slice_get nodes id ≡ Some node = has.1 in
    let below : has_parts_below id node ≡ true = arena_below nodes id node arena is in
    elim (one_of_two (first_among (first_where test nodes) (text_parts node)) (if test id then Some id else None) k (sym (first_at test nodes id node is below) ∙ found)) [
      | inl part ↦
          let small : k < id = among_found (first_where test nodes) id (text_parts node) k
          (λ p less one. first_below test nodes arena n p k (omega (arith, less, h)) (omega (arith, less, within)) one) (all_below id node below) part in
          omega (arith, small)
      | inr own ↦ let same : id ≡ k = chosen_is (test id) id k own in omega (arith, same)
    ]

-- the first term without room is there
pub found_there : (constant : ℕ → Option ℤ) (naming : Naming) (nodes : List Node) → IsArena nodes → (top k : ℕ) → top < length nodes → first_wide_by constant naming nodes top ≡ Some k → k < length nodes
found_there constant naming nodes arena top k within found = elim (one_of_two (first_where (is_wide constant naming nodes) nodes top) (first_where (has_wide_sides constant naming nodes) nodes top) k found) [
  | inl one ↦ let most : k ≤ top = first_below (is_wide constant naming nodes) nodes arena (suc top) top k (omega arith) within one in omega (arith, most, within)
  | inr two ↦ let most : k ≤ top = first_below (has_wide_sides constant naming nodes) nodes arena (suc top) top k (omega arith) within two in omega (arith, most, within)
]
