-- The formulas of a definition at arguments with room: their variables are below a total, and constants of divisibilities are short.
use Rattle.std.proofs.Common.{◌≡◌, ℕ, ◌+◌, ◌<◌, ◌≤◌, ◌==◌, ◌^◌, List, [], ◌∷◌, length, Bool, true, refl, ◌∙◌, subst, arith}
use Rattle.std.proofs.lemmas.Bool.{lt-ltb}
use Rattle.std.proofs.lemmas.Option.{slice_get_within}
use Rattle.std.specs.Prelude.{slice_get, position, Some, None, nat_lt}
use Rattle.std.specs.List.{AllByRecursion, list_all}
use Rattle.term_tree.specs.declared.definition.Definition.{Definition}
use Rattle.term_tree.specs.declared.node.TermId.{TermId}
use Rattle.term_tree.specs.declared.node.OpKind.{OpKind}
use Rattle.term_tree.specs.declared.node.Node.TheVariants.{Op}
use Rattle.term_tree.specs.declared.sort.Sort.{Sort}
use Rattle.term_tree.specs.Constants.{constant_of}
use Rattle.term_tree.specs.Solution.{IsFormula}
use Rattle.term_tree.specs.Subterms.{IsSubterm, inside, itself}
use Rattle.lin_atoms.specs.Algebra.{name_in}
use Rattle.lin_atoms.specs.Truth.{lit_is_below}
use Rattle.lin_atoms.specs.declared.form.Form.{Form}
use Rattle.lin_atoms.specs.declared.lit.Lit.{Lit as Literal}
use Rattle.linear_terms.specs.Linear.{Naming}
use Rattle.linear_terms.specs.Formula.{formula}
use Rattle.linear_terms.specs.Place.{place_form}
use Rattle.linear_terms.specs.Width.{first_wide}
use Rattle.term_widths.specs.machinery.Apart.{Occurs}
use Rattle.term_widths.proofs.ConstantLemmas.{judged_same}
use Rattle.term_widths.proofs.PositionLemmas.{position_is}
use Rattle.term_formulas.specs.Written.{HasRoom}
use Rattle.term_formulas.proofs.RoomLemmas.{room_part}
use Rattle.clause_form.specs.System.{has_short_in_guard}
use Rattle.clause_normal.specs.Normal.{place_forms}
use Rattle.clause_normal.proofs.MadeLemmas.{from_moved}
use Rattle.clause_normal.proofs.PassLemmas.{passes}
use Rattle.clause_normal.proofs.PlaceLemmas.{IsPlaced, places_are}
use Rattle.clause_laws.specs.Defined.{definition_forms, definition_places, definition_sorting, naming_at}
use Rattle.clause_laws.proofs.DefinitionLemmas.{body_there, parameter_there}
use Rattle.clause_defined.proofs.Public.{all_one, there_is_one}
use Rattle.chc_checker.proofs.PassLemmas.{append_pass, both_hold}
use Rattle.chc_checker.proofs.TermLemmas.{formula_below, formula_short, place_below, place_short}

module _ (d : Definition) (sorts : List Sort) (is : IsFormula sorts d.terms.nodes d.body.0) (args : List ℕ) (first total : ℕ) (count : length sorts ≡ length args)
    (below : AllByRecursion (λ v. v < first) args) (fits : first + length (definition_places d) ≤ total) (narrow : first_wide (naming_at d args first) d.terms.nodes d.body.0 ≡ None) where
  abbrev naming : Naming
  naming = naming_at d args first

  owns : (binder : ℕ) → Occurs d.terms.nodes d.body.0 binder → nat_lt (name_in args binder) total ≡ true
  owns binder occurs =
      let parameter = parameter_there d sorts is occurs.id binder occurs.sort occurs.below occurs.is in
      let within : binder < length sorts = slice_get_within sorts binder occurs.sort parameter in
      let less : binder < length args = omega (arith, within, count) in
      let low : name_in args binder < first = all_one (λ v. v < first) args binder (name_in args binder) below (there_is_one args binder binder less) in
      lt-ltb (name_in args binder) total (omega (arith, low, fits))

  placed_in : (i : ℕ) → i < length (definition_places d) → nat_lt (first + i) total ≡ true
  placed_in i less = lt-ltb (first + i) total (omega (arith, less, fits))

  named : (id v : ℕ) → naming.auxiliary id ≡ Some v → nat_lt v total ≡ true
  named id v is_v =
      let found = from_moved first v (position (λ (p : ℕ). p == id) (definition_places d)) is_v in
      let at = position_is (λ (p : ℕ). p == id) (definition_places d) found.0 found.1 in
      subst (λ (k : ℕ). nat_lt k total ≡ true) found.2 (placed_in found.0 at.within)

  room_top : HasRoom (constant_of d.terms.nodes) naming d.terms.nodes d.body.0
  room_top = record {
    there = body_there d sorts is;
    narrow = judged_same (constant_of d.terms.nodes) naming d.terms.nodes d.body.0 is.arena (λ q s within. refl) (body_there d sorts is) ∙ narrow;
    linear = is.legal.linear;
    short = is.legal.short;
    constants = λ q s within. refl;
  }

  room : (id : ℕ) → IsSubterm d.terms.nodes d.body.0 id → HasRoom (constant_of d.terms.nodes) naming d.terms.nodes id
  room _ itself = room_top
  room _ (inside {id = id} part node sub at has) = room_part (constant_of d.terms.nodes) naming d.terms.nodes id part node is.arena (room id sub) at has

  -- where formulas and places pass a test, all of the definition's do
  module _ (t : Literal → Bool) (formulas : (id : ℕ) (sign : Bool) → IsSubterm d.terms.nodes d.body.0 id → passes t (formula (definition_sorting d) naming d.terms.nodes id sign) ≡ true)
      (places : (v id : ℕ) → nat_lt v total ≡ true → IsSubterm d.terms.nodes d.body.0 id → passes t (place_form (definition_sorting d) naming d.terms.nodes v id) ≡ true) where
    places_pass : (ids : List ℕ) (v : ℕ) → v + length ids ≤ total → AllByRecursion (IsPlaced d.terms.nodes d.body.0) ids
        → list_all (passes t) (place_forms (definition_sorting d) naming d.terms.nodes v ids) ≡ true
    places_pass [] v most all = refl
    places_pass (id ∷ ids) v most all =
        both_hold (passes t (place_form (definition_sorting d) naming d.terms.nodes v id)) (list_all (passes t) (place_forms (definition_sorting d) naming d.terms.nodes (v + 1) ids))
        (places v id (lt-ltb v total (omega (arith, most))) all.0.sub) (places_pass ids (v + 1) (omega (arith, most)) all.1)

    forms_pass : (sign : Bool) → list_all (passes t) (definition_forms sign d args first) ≡ true
    forms_pass sign =
        let one : Form = formula (definition_sorting d) naming d.terms.nodes d.body.0 sign in
        append_pass t (place_forms (definition_sorting d) naming d.terms.nodes first (definition_places d)) (one ∷ [])
        (places_pass (definition_places d) first fits (places_are (definition_sorting d) d.terms.nodes is.arena d.body.0 (body_there d sorts is)))
        (both_hold (passes t one) true (formulas d.body.0 sign itself) refl)

  pub forms_below : (sign : Bool) → list_all (passes (lit_is_below total)) (definition_forms sign d args first) ≡ true
  forms_below sign =
      forms_pass (lit_is_below total) (formula_below (definition_sorting d) naming d.terms.nodes d.body.0 total is.arena owns named room)
      (place_below (definition_sorting d) naming d.terms.nodes d.body.0 total is.arena owns named room) sign

  pub forms_short : ((id : ℕ) (op : OpKind) (ids : List TermId) → IsSubterm d.terms.nodes d.body.0 id → slice_get d.terms.nodes id ≡ Some (Op op ids) → length ids < 2 ^ 63) → (sign : Bool)
      → list_all (passes has_short_in_guard) (definition_forms sign d args first) ≡ true
  forms_short few sign =
      forms_pass has_short_in_guard (formula_short (definition_sorting d) naming d.terms.nodes d.body.0 total is.arena owns named room few)
      (place_short (definition_sorting d) naming d.terms.nodes d.body.0 total is.arena owns named room few) sign
