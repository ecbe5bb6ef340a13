-- How many lists of standings there can be.
use Rattle.std.proofs.Common.{◌≡◌, ℕ, ◌^◌, ◌<◌, ◌≤◌, List, [], ◌∷◌, ◌++◌, length, map, get_or, sym, ◌∙◌, subst, arith, true, false}
use Rattle.std.specs.Prelude.{nat_eq}
use Rattle.std.specs.List.{All, Contains, IsDistinct, list_any}
use Rattle.std.proofs.lemmas.List.{length-map, length_push, get_or-map, map-append}
use Rattle.std.proofs.lemmas.List.Elements.{All-push, All-contains, All-map}
use Rattle.std.proofs.lemmas.Map.Keys.{IsDistinct-push}
use Rattle.std.proofs.lemmas.Map.Steps.{length-le_from_distinct_below}
use Rattle.std.proofs.lemmas.Map.Views.{Contains-from_any}
use Rattle.std.proofs.lemmas.Bool.{eqb-true, false_from_ne_true}
use Rattle.std.proofs.lemmas.Cmp.{nat_eq_equiv}
use Rattle.simplex_core.specs.machinery.Standing.{number}
use Rattle.simplex_core.specs.declared.standing.Standing.{Standing}
use Rattle.simplex_core.proofs.StandingLemmas.{number-below, number-same}

-- each list has a standing for each column, and no two lists are equal: they have different numbers
pub record AreDistinct (columns : ℕ) (lists : List (List Standing)) : Type 0 where
  pub each : All (λ standings. length standings ≡ columns) lists
  pub distinct : IsDistinct nat_eq (map number lists)

pub distinct-none : (columns : ℕ) → AreDistinct columns []
unfolding IsDistinct
distinct-none columns = record { each = λ k d h. absurd (omega arith); distinct = tt }

below_all : (lists : List (List Standing)) (columns : ℕ) → All (λ ss. length ss ≡ columns) lists → All (λ m. m < 4 ^ columns) (map number lists)
below_all lists columns each =
    All-map (λ m. m < 4 ^ columns) number lists (λ k d h. subst (λ n. number (get_or lists k d) < 4 ^ n) (each k d h) (number-below (get_or lists k d)))

same_number : (m n : ℕ) → nat_eq m n ≡ true → m ≡ n
same_number m n h = eqb-true m n h

-- a list of standings whose number is among those of the lists is one of them
among_from_number : (columns : ℕ) (lists : List (List Standing)) (ss : List Standing) → All (λ ts. length ts ≡ columns) lists → length ss ≡ columns → list_any (nat_eq (number ss)) (map number lists) ≡ true → Contains lists ss
among_from_number columns lists ss each e h =
    let found : Contains (map number lists) (number ss) = Contains-from_any same_number (number ss) (map number lists) h in
    let k = found.0 in
    let within : k < length lists = omega (arith, found.1, length-map lists number) in
    let same : number (get_or lists k ss) ≡ number ss = sym (get_or-map number lists k ss (number ss) within) ∙ found.2 in
    (k, within, number-same (get_or lists k ss) ss (each k ss within ∙ sym e) same)

pub distinct-push : (columns : ℕ) (lists : List (List Standing)) (ss : List Standing) → AreDistinct columns lists → length ss ≡ columns → (Contains lists ss → ⊥) → AreDistinct columns (lists ++ ss ∷ [])
distinct-push columns lists ss are e unmet =
    let none : list_any (nat_eq (number ss)) (map number lists) ≡ false = false_from_ne_true _ (λ h. unmet (among_from_number columns lists ss are.each e h)) in
    record {
      each = All-push (λ ts. length ts ≡ columns) lists ss are.each e;
      distinct = subst (IsDistinct nat_eq) (sym (map-append number lists (ss ∷ []))) (IsDistinct-push nat_eq_equiv (map number lists) (number ss) are.distinct none);
    }

-- lists that are all different are no more than all that there can be
at_most_all : (columns : ℕ) (lists : List (List Standing)) → AreDistinct columns lists → length lists ≤ 4 ^ columns
at_most_all columns lists are =
    let below : (q : ℕ) → list_any (nat_eq q) (map number lists) ≡ true → q < 4 ^ columns =
    λ q h. All-contains (λ m. m < 4 ^ columns) (map number lists) q (below_all lists columns are.each) (Contains-from_any same_number q (map number lists) h) in
    let le = length-le_from_distinct_below (map number lists) (4 ^ columns) are.distinct below in
    omega (arith, le, length-map lists number)

pub few : (columns : ℕ) (lists : List (List Standing)) (ss : List Standing) → AreDistinct columns lists → length ss ≡ columns → (Contains lists ss → ⊥) → length lists < 4 ^ columns
few columns lists ss are e unmet =
    let le = at_most_all columns (lists ++ ss ∷ []) (distinct-push columns lists ss are e unmet) in
    omega (arith, le, length_push lists ss)
