-- Numbers of lemmas, each behind those before it, and the lemmas of these numbers.
use Rattle.std.proofs.Common.{◌≡◌, ℕ, List, [], ◌∷◌, ◌++◌, ◌+◌, ◌<◌, ◌≤◌, Bool, true, false, refl, ap, sym, ◌∙◌, arith, zero, suc, map, length, take}
use Rattle.std.specs.Prelude.{ℤ, nat_le, nat_lt}
use Rattle.std.specs.List.{list_all}
use Rattle.std.proofs.lemmas.Bool.{and_from, true≢false}
use Rattle.std.proofs.lemmas.Bool.Decides.{nat_tests}
use Rattle.std.proofs.lemmas.List.{map-append, take_more}
use Rattle.std.proofs.lemmas.List.Folds.{list_all-append}
use Rattle.lin_atoms.specs.Truth.{truth}
use Rattle.lin_atoms.specs.declared.form.Form.{Form}
use Rattle.lin_atoms.specs.declared.form.Form.TheViews.{And}
use Rattle.lin_atoms.specs.declared.form.Form.TheVariants.{True}
use Rattle.lin_atoms.proofs.Public.{both_true, truth-And}
use Rattle.int_rows.specs.Basis.{are_rising}
use Rattle.farkas_proof.specs.Kept.{form_of}
use Rattle.refutation_trees.specs.Refutation.{HasNoPoint}
use Rattle.farkas_proof.specs.declared.refuted.Refuted.{Refuted}
use Rattle.lia_used.specs.Used.{AreNumbers, IsRefutedBy, lemma_at}

le-test : (a b : ℕ) → a ≤ b → nat_le a b ≡ true
le-test a b h = grind (arith, nat_tests)

lt-test : (a b : ℕ) → a < b → nat_lt a b ≡ true
lt-test a b h = grind (arith, nat_tests)

lt-told : (a b : ℕ) → nat_lt a b ≡ true → a < b
lt-told a b h = grind (arith, nat_tests)

rising-push : (from count : ℕ) (numbers : List ℕ) → from ≤ count → are_rising from numbers ≡ true → list_all (λ n. nat_lt n count) numbers ≡ true → are_rising from (numbers ++ count ∷ []) ≡ true
rising-push from count [] h rising within = and_from _ _ (le-test from count h) refl
rising-push from count (n ∷ numbers) h rising within =
    let up = both_true (nat_le from n) _ rising in
    let below = both_true (nat_lt n count) _ within in
    let next = lt-told n count below.0 in
    and_from _ _ up.0 (rising-push (n + 1) count numbers (omega (arith, next)) up.1 below.1)

within-more : (count : ℕ) (numbers : List ℕ) → list_all (λ n. nat_lt n count) numbers ≡ true → list_all (λ n. nat_lt n (count + 1)) numbers ≡ true
within-more count [] within = refl
within-more count (n ∷ numbers) within =
    let below = both_true (nat_lt n count) _ within in
    let next = lt-told n count below.0 in
    and_from _ _ (lt-test n (count + 1) (omega (arith, next))) (within-more count numbers below.1)

-- one lemma more
pub numbers-skip : (count : ℕ) (numbers : List ℕ) → AreNumbers count numbers → AreNumbers (count + 1) numbers
numbers-skip count numbers are = record { rising = are.rising; within = within-more count numbers are.within }

-- and its number
pub numbers-push : (count : ℕ) (numbers : List ℕ) → AreNumbers count numbers → AreNumbers (count + 1) (numbers ++ count ∷ [])
numbers-push count numbers are = record {
  rising = rising-push 0 count numbers (omega arith) are.rising are.within;
  within = list_all-append (λ n. nat_lt n (count + 1)) numbers (count ∷ []) ∙ and_from _ _ (within-more count numbers are.within) (and_from _ _ (lt-test count (count + 1) (omega arith)) refl);
}

-- the lemmas so far, and the next
pub lemmas-push : (lemmas : List Form) (numbers : List ℕ) (i : ℕ) → i < length lemmas → map (lemma_at lemmas) numbers ≡ take i lemmas → map (lemma_at lemmas) (numbers ++ i ∷ []) ≡ take (i + 1) lemmas
lemmas-push lemmas numbers i within same = map-append (lemma_at lemmas) numbers (i ∷ []) ∙ ap (λ forms. forms ++ lemma_at lemmas i ∷ []) same ∙ sym (take_more lemmas i True within)

lemma-true : (point : List ℤ) (lemmas : List Form) (n : ℕ) → n < length lemmas → list_all (truth point) lemmas ≡ true → truth point (lemma_at lemmas n) ≡ true
lemma-true point [] n within all = absurd (omega (arith, within))
lemma-true point (lemma ∷ lemmas) zero within all = (both_true (truth point lemma) _ all).0
lemma-true point (lemma ∷ lemmas) (suc n) within all = lemma-true point lemmas n (omega (arith, within)) (both_true (truth point lemma) _ all).1

lemmas-true : (point : List ℤ) (lemmas : List Form) (numbers : List ℕ) → list_all (λ n. nat_lt n (length lemmas)) numbers ≡ true → list_all (truth point) lemmas ≡ true → list_all (truth point) (map (lemma_at lemmas) numbers) ≡ true
lemmas-true point lemmas [] within all = refl
lemmas-true point lemmas (n ∷ numbers) within all =
    let below = both_true (nat_lt n (length lemmas)) _ within in
    and_from _ _ (lemma-true point lemmas n (lt-told n (length lemmas) below.0) all) (lemmas-true point lemmas numbers below.1 all)

-- where the formula and the lemmas that are used have no point, the formula and all lemmas have none
pub all-refuted : (form : Form) (lemmas : List Form) (used : List ℕ) (refuted : Refuted) → IsRefutedBy form lemmas used refuted → HasNoPoint (form_of refuted) → HasNoPoint (And (form ∷ lemmas))
all-refuted form lemmas used refuted is no_point point = by (truth point (And (form ∷ lemmas))) refl
  where
    by : (b : Bool) → truth point (And (form ∷ lemmas)) ≡ b → truth point (And (form ∷ lemmas)) ≡ false
    by false told = told
    by true told =
        let both = both_true (truth point form) _ (sym (truth-And point (form ∷ lemmas)) ∙ told) in
        let some = truth-And point (form ∷ map (lemma_at lemmas) used) ∙ and_from _ _ both.0 (lemmas-true point lemmas used is.numbers.within both.1) in
        absurd (true≢false (sym some ∙ ap (truth point) (sym is.whole) ∙ no_point point))
