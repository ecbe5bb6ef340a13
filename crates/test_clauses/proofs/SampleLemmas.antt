-- The terms of the rows are legal, so that those without a wide form have room, and the variables of the places are fresh.
use Rattle.std.proofs.Common.{◌≡◌, ℕ, zero, suc, ◌<◌, ◌≤◌, ◌^◌, List, [], ◌∷◌, length, Bool, true, refl, ap, sym, ◌∙◌, subst, arith}
use Rattle.std.specs.Prelude.{slice_get, Option, Some, None, nat_lt, ℤ}
use Rattle.std.specs.List.{list_all}
use Rattle.std.specs.Ordering.{nat_cmp}
use Rattle.std.specs.BTreeMap.{BTreeMap, get}
use Rattle.std.proofs.lemmas.Bool.{ltb-true}
use Rattle.lin_atoms.specs.Algebra.{name_in}
use Rattle.term_tree.specs.declared.node.Node.{Node}
use Rattle.term_tree.specs.declared.node.Node.TheVariants.{Var}
use Rattle.term_tree.specs.Arena.{IsArena}
use Rattle.term_tree.specs.Constants.{constant_of, has_short_constants, is_linear}
use Rattle.term_tree.proofs.Public.{both_true, there_is}
use Rattle.linear_terms.specs.Linear.{Naming}
use Rattle.term_tables.specs.machinery.Table.{AreConstants, constant_in}
use Rattle.term_tables.proofs.ConstantLemmas.{constants_are}
use Rattle.term_widths.specs.Wide.{first_wide_by}
use Rattle.term_widths.specs.machinery.Apart.{Occurs}
use Rattle.term_formulas.specs.Written.{HasRoom}
use Rattle.term_formulas.specs.machinery.Fresh.{IsFresh}
use Rattle.term_forms.specs.Found.{naming_in}
use Rattle.term_formulas.specs.machinery.Parts.{ArePlaces, is_shaped}
use Rattle.test_clauses.specs.machinery.Samples.{AreGiven, row_terms}

passes : (test : Node → Bool) (nodes : List Node) → list_all test nodes ≡ true → (id : ℕ) (node : Node) → slice_get nodes id ≡ Some node → test node ≡ true
passes test [] all id node is = absurd (cc)
passes test (first ∷ nodes) all zero node is = ap test (same first node is) ∙ (both_true (test first) (list_all test nodes) all).0
  where
    same : (a b : Node) → Some a ≡ Some b → b ≡ a
    same a b h = cc
passes test (first ∷ nodes) all (suc id) node is = passes test nodes (both_true (test first) (list_all test nodes) all).1 id node is

-- they are few
few : length row_terms < 2 ^ 32
few = ltb-true (length row_terms) (2 ^ 32) refl

pub rows_have_room : (kept : List (Option ℤ)) (naming : Naming) (nodes : List Node) (id : ℕ) → nodes ≡ row_terms → IsArena nodes → AreConstants row_terms kept → id < length nodes
    → first_wide_by (constant_in kept) naming nodes id ≡ None → HasRoom (constant_in kept) naming nodes id
rows_have_room kept naming nodes id are arena constants there narrow =
    subst (λ (ns : List Node). HasRoom (constant_in kept) naming ns id) (sym are)
    (room (subst (λ (ns : List Node). IsArena ns) are arena) (subst (λ (ns : List Node). id < length ns) are there) (subst (λ (ns : List Node). first_wide_by (constant_in kept) naming ns id ≡ None) are narrow))
  where
    linear_rows : (q : ℕ) (node : Node) → slice_get row_terms q ≡ Some node → is_linear (constant_of row_terms) node ≡ true
    linear_rows q node is = passes (is_linear (constant_of row_terms)) row_terms refl q node is

    short_rows : (q : ℕ) (node : Node) → slice_get row_terms q ≡ Some node → has_short_constants (constant_of row_terms) node ≡ true
    short_rows q node is = passes (has_short_constants (constant_of row_terms)) row_terms refl q node is

    room : IsArena row_terms → id < length row_terms → first_wide_by (constant_in kept) naming row_terms id ≡ None → HasRoom (constant_in kept) naming row_terms id
    room legal within none = record {
      there = within;
      narrow = none;
      linear = λ q node sub is. linear_rows q node is;
      short = λ q node sub is. short_rows q node is;
      constants = λ q sub inside. constants q (below q inside) ∙ constants_are row_terms id legal (λ k node under is. short_rows k node is) (suc q) q (omega arith) sub inside;
    }
      where
        below : (q : ℕ) → q < length row_terms → q < 2 ^ 32
        below q inside = let small = few in omega (arith, small, inside)

pub rows_are_shaped : (nodes : List Node) (id : ℕ) → nodes ≡ row_terms → id < length nodes → is_shaped (slice_get nodes id) ≡ true
rows_are_shaped nodes id are within =
    let found = there_is nodes id within in
    let node : Node = found.0 in
    let here : slice_get row_terms id ≡ Some node = ap (λ (ns : List Node). slice_get ns id) (sym are) ∙ found.1 in
    ap is_shaped found.1 ∙ passes (λ (n : Node). is_shaped (Some n)) row_terms refl id node here

-- the variables of the terms are below 4
abbrev is_own : Node → Bool
is_own (Var binder sort) = nat_lt binder 4
is_own _ = true

occurring_low : (nodes : List Node) (top binder : ℕ) → nodes ≡ row_terms → Occurs nodes top binder → binder < 4
occurring_low nodes top binder are occurs =
    let here : slice_get row_terms occurs.id ≡ Some (Var binder occurs.sort) = ap (λ (ns : List Node). slice_get ns occurs.id) (sym are) ∙ occurs.is in
    ltb-true binder 4 (passes is_own row_terms refl occurs.id (Var binder occurs.sort) here)

pub rows_are_fresh : (nodes : List Node) (own : List ℕ) (auxiliary : BTreeMap ℕ ℕ) (v id : ℕ) → nodes ≡ row_terms → own ≡ []
    → ((other w : ℕ) → get nat_cmp auxiliary other ≡ Some w → (other ≡ 8) × (w ≡ 4)) → 4 ≤ v → (v ≡ 4 → id ≡ 8)
    → IsFresh nodes (record { own = name_in own; auxiliary = get nat_cmp auxiliary }) v id
rows_are_fresh nodes own auxiliary v id are none only low same = record {
  alone = λ other named. let told = only other v named in told.0 ∙ sym (same told.1);
  apart = λ binder occurs named.
      let small : binder < 4 = occurring_low nodes id binder are occurs in
      let stands : binder ≡ v = sym (ap (λ (names : List ℕ). name_in names binder) none) ∙ named in
      absurd (omega (arith, small, stands, low));
}

-- the places of the term 8 and of another one, from the variable 4 on
pub rows_are_places : (kept : List (Option ℤ)) (own : List ℕ) (auxiliary : BTreeMap ℕ ℕ) (nodes : List Node) (other : ℕ) → AreGiven nodes kept own auxiliary
    → HasRoom (constant_in kept) (naming_in own auxiliary) nodes 8 → HasRoom (constant_in kept) (naming_in own auxiliary) nodes other
    → ArePlaces (constant_in kept) (naming_in own auxiliary) nodes 4 (8 ∷ other ∷ [])
rows_are_places kept own auxiliary nodes other given truth integer = (
  truth,
  rows_are_fresh nodes own auxiliary 4 8 given.terms given.own given.auxiliary (omega arith) (λ same. refl),
  rows_are_shaped nodes 8 given.terms truth.there,
  (integer, rows_are_fresh nodes own auxiliary 5 other given.terms given.own given.auxiliary (omega arith) (λ same. absurd (omega (arith, same))), rows_are_shaped nodes other given.terms integer.there, tt),
)
