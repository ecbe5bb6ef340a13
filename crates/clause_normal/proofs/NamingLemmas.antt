-- Names that are kept in a map, from the last place to the first.
use Rattle.std.proofs.Common.{◌≡◌, ℕ, suc, ◌+◌, ◌<◌, ◌==◌, List, length, drop, get_or, cond, Bool, true, false, inl, inr, refl, ap, sym, ◌∙◌, arith}
use Rattle.std.proofs.Math.Path.{fun_ext}
use Rattle.std.proofs.lemmas.Bool.{cases_eq}
use Rattle.std.proofs.lemmas.Bool.Decides.{nat_tests}
use Rattle.std.proofs.lemmas.List.{drop_more}
use Rattle.std.specs.Prelude.{position, Option, Some, None, option_map}
use Rattle.std.specs.Ordering.{nat_cmp}
use Rattle.std.specs.BTreeMap.{BTreeMap, get}
use Rattle.lin_atoms.specs.Algebra.{name_in}
use Rattle.linear_terms.specs.Linear.{Naming}
use Rattle.term_forms.specs.Found.{naming_in}
use Rattle.term_widths.specs.machinery.Apart.{placed_naming}
use Rattle.clause_normal.proofs.Lower.{position_on}

same_test : (a b : ℕ) → a ≡ b → (a == b) ≡ true
same_test a b h = grind (arith, nat_tests)

other_test : (a b : ℕ) → (a ≡ b → ⊥) → (a == b) ≡ false
other_test a b h = grind (arith, nat_tests)

moved_once : (first left : ℕ) (o : Option ℕ) → option_map (λ i. first + ((left + 1) + i)) o ≡ option_map (λ i. first + (left + i)) (option_map suc o)
moved_once first left None = refl
moved_once first left (Some i) = ap (λ (k : ℕ). Some k) (let e : first + ((left + 1) + i) ≡ first + (left + suc i) = omega arith in e)

-- one more place has its number
pub named_more : (first left : ℕ) (placed : List ℕ) (d : ℕ) (old new : BTreeMap ℕ ℕ) → left < length placed
    → ((id : ℕ) → get nat_cmp old id ≡ option_map (λ i. first + ((left + 1) + i)) (position (λ p. p == id) (drop (left + 1) placed)))
    → get nat_cmp new (get_or placed left d) ≡ Some (first + left) → ((q : ℕ) → (get_or placed left d ≡ q → ⊥) → get nat_cmp new q ≡ get nat_cmp old q)
    → (id : ℕ) → get nat_cmp new id ≡ option_map (λ i. first + (left + i)) (position (λ p. p == id) (drop left placed))
named_more first left placed d old new h is here others id =
    let split : position (λ p. p == id) (drop left placed) ≡ cond (get_or placed left d == id) (Some 0) (option_map suc (position (λ p. p == id) (drop (left + 1) placed))) =
    ap (position (λ p. p == id)) (drop_more placed left d h) ∙ position_on (λ p. p == id) (get_or placed left d) (drop (left + 1) placed) in
    elim (cases_eq (get_or placed left d) id) [
      | inl same ↦
          ap (get nat_cmp new) (sym same) ∙ here ∙ ap (λ (k : ℕ). Some k) (let e : first + left ≡ first + (left + 0) = omega arith in e)
          ∙ sym (ap (option_map (λ i. first + (left + i))) (split ∙ ap (λ (b : Bool). cond b (Some 0) (option_map suc (position (λ p. p == id) (drop (left + 1) placed)))) (same_test (get_or placed left d) id same)))
      | inr differ ↦
          others id differ ∙ is id ∙ moved_once first left (position (λ p. p == id) (drop (left + 1) placed))
          ∙ sym (ap (option_map (λ i. first + (left + i))) (split ∙ ap (λ (b : Bool). cond b (Some 0) (option_map suc (position (λ p. p == id) (drop (left + 1) placed)))) (other_test (get_or placed left d) id differ)))
    ]

from_none : (first : ℕ) (o : Option ℕ) → option_map (λ i. first + (0 + i)) o ≡ option_map (λ i. first + i) o
from_none first None = refl
from_none first (Some i) = ap (λ (k : ℕ). Some k) (let e : first + (0 + i) ≡ first + i = omega arith in e)

-- all have theirs
pub named_all : (own : List ℕ) (first : ℕ) (placed : List ℕ) (auxiliary : BTreeMap ℕ ℕ)
    → ((id : ℕ) → get nat_cmp auxiliary id ≡ option_map (λ i. first + (0 + i)) (position (λ p. p == id) (drop 0 placed))) → naming_in own auxiliary ≡ placed_naming own first placed
named_all own first placed auxiliary is = ap (λ (f : ℕ → Option ℕ). with_auxiliary f) (fun_ext (λ id. is id ∙ from_none first (position (λ p. p == id) placed)))
  where
    with_auxiliary : (ℕ → Option ℕ) → Naming
    with_auxiliary f = record { own = name_in own; auxiliary = f }
