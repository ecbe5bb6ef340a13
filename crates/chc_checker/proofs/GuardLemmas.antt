-- The guard of an assertion's normal clause with room: its variables are below a total, and constants of divisibilities are short.
use Rattle.std.proofs.Common.{◌≡◌, ℕ, ◌+◌, ◌<◌, ◌≤◌, ◌==◌, ◌^◌, List, [], ◌∷◌, ◌++◌, length, map, Bool, true, not, refl, subst, arith}
use Rattle.std.proofs.lemmas.Bool.{lt-ltb}
use Rattle.std.specs.Prelude.{slice_get, position, Some, None, negsuc, nat_lt}
use Rattle.std.specs.List.{AllByRecursion, list_all}
use Rattle.term_tree.specs.declared.node.TermId.{TermId}
use Rattle.term_tree.specs.declared.node.OpKind.{OpKind}
use Rattle.term_tree.specs.declared.node.Node.{Node}
use Rattle.term_tree.specs.declared.node.Node.TheVariants.{Op}
use Rattle.term_tree.specs.declared.script.Script.{Script}
use Rattle.term_tree.specs.declared.sort.Sort.{Sort}
use Rattle.term_tree.specs.declared.sort.Sort.TheVariants.{Int, Bool as BoolSort}
use Rattle.term_tree.specs.Arena.{IsArena}
use Rattle.term_tree.specs.Constants.{constant_of}
use Rattle.term_tree.specs.Subterms.{IsSubterm, inside, itself}
use Rattle.horn_shape.specs.declared.clause.HornClause.{HornClause}
use Rattle.horn_shape.specs.declared.clause.Part.{Part}
use Rattle.horn_shape.specs.Clause.{IsClauseOf, IsLegalScript, content_of}
use Rattle.lin_atoms.specs.Algebra.{negated, plus}
use Rattle.lin_atoms.specs.Linear.{Linear, lin_all}
use Rattle.lin_atoms.specs.Truth.{lit_is_below}
use Rattle.lin_atoms.specs.declared.form.Form.{Form}
use Rattle.lin_atoms.specs.declared.lit.Lit.{Lit as Literal}
use Rattle.linear_terms.specs.Linear.{variable_form}
use Rattle.linear_terms.specs.Formula.{formula, le}
use Rattle.linear_terms.specs.Place.{place_form}
use Rattle.term_widths.specs.machinery.Apart.{Occurs}
use Rattle.term_widths.proofs.PositionLemmas.{position_is}
use Rattle.term_formulas.specs.Written.{HasRoom}
use Rattle.clause_form.specs.System.{has_short_in_guard}
use Rattle.clause_normal.specs.Normal.{auxiliaries, bits_from, first_without_room, guard_form, clause_guard, guard_parts, names_of, place_forms, sorting, top_of}
use Rattle.clause_normal.proofs.LowLemmas.{added_all, negated_all, scaled_all}
use Rattle.clause_normal.proofs.MadeLemmas.{from_moved, low_top, placed_top, room_sub, top_is}
use Rattle.clause_normal.proofs.PassLemmas.{le_passes, passes}
use Rattle.clause_normal.proofs.PlaceLemmas.{IsPlaced}
use Rattle.clause_normal.proofs.ReadLemmas.{clause_holds}
use Rattle.chc_checker.proofs.PassLemmas.{append_pass, both_hold, conjunction_pass}
use Rattle.chc_checker.proofs.TermLemmas.{formula_below, formula_short, place_below, place_short}

module _ (script : Script) (clause : HornClause) (arena : IsArena script.terms.nodes) (legal : IsLegalScript script) (is : IsClauseOf script clause.assertion clause)
    (narrow : first_without_room script clause ≡ None) (total : ℕ) (fits : length clause.vars + length (auxiliaries script clause) ≤ total) where
  abbrev nodes : List Node
  nodes = script.terms.nodes

  abbrev top : ℕ
  top = top_of script clause

  owns : (binder : ℕ) → Occurs nodes top binder → nat_lt ((names_of script clause).own binder) total ≡ true
  owns binder occurs =
      let small : binder < length clause.vars = low_top script clause arena legal is occurs.id binder occurs.sort occurs.below occurs.is in
      lt-ltb binder total (omega (arith, small, fits))

  placed_in : (i : ℕ) → i < length (auxiliaries script clause) → nat_lt (length clause.vars + i) total ≡ true
  placed_in i less = lt-ltb (length clause.vars + i) total (omega (arith, less, fits))

  named : (id v : ℕ) → (names_of script clause).auxiliary id ≡ Some v → nat_lt v total ≡ true
  named id v is_v =
      let found = from_moved (length clause.vars) v (position (λ (p : ℕ). p == id) (auxiliaries script clause)) is_v in
      let at = position_is (λ (p : ℕ). p == id) (auxiliaries script clause) found.0 found.1 in
      subst (λ (k : ℕ). nat_lt k total ≡ true) found.2 (placed_in found.0 at.within)

  room : (id : ℕ) → IsSubterm nodes top id → HasRoom (constant_of nodes) (names_of script clause) nodes id
  room id sub = room_sub script clause arena legal is (constant_of nodes) (λ q s within. refl) narrow id sub

  -- the guards are subterms of the assertion
  abbrev IsInside : ℕ → Type 0
  IsInside id = IsSubterm nodes top id

  guards_inside : AllByRecursion (λ (part : Part). IsSubterm nodes top part.term.0) clause.guards
  guards_inside =
      (clause_holds nodes arena IsInside (λ atom. Unit {0}) (λ id part node at has other sub. inside part node sub at has) (λ id pred lets args at sub. tt) is.assertion.term [] (content_of clause) is.reading
      (subst IsInside (top_is script clause arena legal is) itself)).guards

  -- the guard passes a test that its formulas and places pass
  module _ (t : Literal → Bool)
      (bits : (v : ℕ) → nat_lt v total ≡ true → (passes t (le (negated (variable_form v))) ≡ true) × (passes t (le (plus (variable_form v) (negsuc 0))) ≡ true))
      (formulas : (id : ℕ) (sign : Bool) → IsSubterm nodes top id → passes t (formula (sorting script) (names_of script clause) nodes id sign) ≡ true)
      (places : (v id : ℕ) → nat_lt v total ≡ true → IsSubterm nodes top id → passes t (place_form (sorting script) (names_of script clause) nodes v id) ≡ true) where
    bits_pass : (sorts : List Sort) (v : ℕ) → v + length sorts ≤ total → list_all (passes t) (bits_from v sorts) ≡ true
    bits_pass [] v most = refl
    bits_pass (Int ∷ sorts) v most = bits_pass sorts (v + 1) (omega (arith, most))
    bits_pass (BoolSort ∷ sorts) v most =
        let two = bits v (lt-ltb v total (omega (arith, most))) in
        both_hold (passes t (le (negated (variable_form v)))) (list_all (passes t) (le (plus (variable_form v) (negsuc 0)) ∷ bits_from (v + 1) sorts)) two.0
        (both_hold (passes t (le (plus (variable_form v) (negsuc 0)))) (list_all (passes t) (bits_from (v + 1) sorts)) two.1 (bits_pass sorts (v + 1) (omega (arith, most))))

    places_pass : (ids : List ℕ) (v : ℕ) → v + length ids ≤ total → AllByRecursion (IsPlaced nodes top) ids → list_all (passes t) (place_forms (sorting script) (names_of script clause) nodes v ids) ≡ true
    places_pass [] v most all = refl
    places_pass (id ∷ ids) v most all =
        both_hold (passes t (place_form (sorting script) (names_of script clause) nodes v id)) (list_all (passes t) (place_forms (sorting script) (names_of script clause) nodes (v + 1) ids))
        (places v id (lt-ltb v total (omega (arith, most))) all.0.sub) (places_pass ids (v + 1) (omega (arith, most)) all.1)

    guards_pass : (parts : List Part) → AllByRecursion (λ (part : Part). IsSubterm nodes top part.term.0) parts → list_all (passes t) (map (guard_form (sorting script) (names_of script clause) nodes) parts) ≡ true
    guards_pass [] all = refl
    guards_pass (part ∷ parts) all =
        both_hold (passes t (guard_form (sorting script) (names_of script clause) nodes part)) (list_all (passes t) (map (guard_form (sorting script) (names_of script clause) nodes) parts))
        (formulas part.term.0 (not part.negated) all.0) (guards_pass parts all.1)

    guard_passes : passes t (clause_guard script clause) ≡ true
    guard_passes =
        let bits_forms : List Form = bits_from 0 clause.vars in
        let place_list : List Form = place_forms (sorting script) (names_of script clause) nodes (length clause.vars) (auxiliaries script clause) in
        let guard_list : List Form = map (guard_form (sorting script) (names_of script clause) nodes) clause.guards in
        conjunction_pass t (guard_parts script clause)
        (append_pass t (bits_forms ++ place_list) guard_list
        (append_pass t bits_forms place_list (bits_pass clause.vars 0 (omega (arith, fits)))
        (places_pass (auxiliaries script clause) (length clause.vars) fits (placed_top script clause arena legal is)))
        (guards_pass clause.guards guards_inside))

  abbrev in_total : ℕ → Bool
  in_total v = nat_lt v total

  abbrev low : Linear → Type 0
  low l = lin_all in_total l ≡ true

  variable_low : (v : ℕ) → in_total v ≡ true → low (variable_form v)
  variable_low v h = both_hold (in_total v) true h refl

  pub guard_below : passes (lit_is_below total) (clause_guard script clause) ≡ true
  guard_below =
      guard_passes (lit_is_below total)
      (λ v h. (
        le_passes (lit_is_below total) low (λ l ok. ok) (λ l ok. ok) (negated_all in_total) (added_all in_total) (λ l k ok. ok) (scaled_all in_total) (negated (variable_form v)) (negated_all in_total (variable_form v) (variable_low v h)),
        le_passes (lit_is_below total) low (λ l ok. ok) (λ l ok. ok) (negated_all in_total) (added_all in_total) (λ l k ok. ok) (scaled_all in_total) (plus (variable_form v) (negsuc 0)) (variable_low v h),
      ))
      (formula_below (sorting script) (names_of script clause) nodes top total arena owns named room)
      (place_below (sorting script) (names_of script clause) nodes top total arena owns named room)

  abbrev any_form : Linear → Type 0
  any_form l = Unit {0}

  pub guard_short : ((id : ℕ) (op : OpKind) (args : List TermId) → IsSubterm nodes top id → slice_get nodes id ≡ Some (Op op args) → length args < 2 ^ 63) → passes has_short_in_guard (clause_guard script clause) ≡ true
  guard_short few =
      guard_passes has_short_in_guard
      (λ v h. (
        le_passes has_short_in_guard any_form (λ l ok. refl) (λ l ok. refl) (λ l ok. tt) (λ a b x y. tt) (λ l k ok. tt) (λ k l ok. tt) (negated (variable_form v)) tt,
        le_passes has_short_in_guard any_form (λ l ok. refl) (λ l ok. refl) (λ l ok. tt) (λ a b x y. tt) (λ l k ok. tt) (λ k l ok. tt) (plus (variable_form v) (negsuc 0)) tt,
      ))
      (formula_short (sorting script) (names_of script clause) nodes top total arena owns named room few)
      (place_short (sorting script) (names_of script clause) nodes top total arena owns named room few)
