-- Where a definition has room at its arguments, so has each term in it, and the formulas that the code makes are the rule's.
use Rattle.std.proofs.Common.{◌≡◌, ℕ, ◌+◌, ◌<◌, ◌==◌, ◌^◌, List, [], ◌∷◌, ◌++◌, length, Bool, true, not, ◌&&◌, refl, ap, sym, ◌∙◌, subst, arith, append_assoc}
use Rattle.std.proofs.lemmas.Bool.{eqb-true}
use Rattle.std.proofs.lemmas.List.{length-append}
use Rattle.std.proofs.lemmas.Option.{slice_get_within}
use Rattle.std.specs.Prelude.{slice_get, position, Option, Some, None, ℤ}
use Rattle.std.specs.List.{AllByRecursion, list_all}
use Rattle.term_tree.specs.declared.sort.Sort.{Sort}
use Rattle.term_tree.specs.declared.definition.Definition.{Definition}
use Rattle.term_tree.specs.declared.node.OpKind.TheVariants.{Ite, Abs, Div as Quotient, Mod as Remainder}
use Rattle.term_tree.specs.declared.node.Node.{Node}
use Rattle.term_tree.specs.declared.node.Node.TheVariants.{Op}
use Rattle.term_tree.specs.Constants.{constant_of}
use Rattle.term_tree.specs.Solution.{IsFormula}
use Rattle.term_tree.specs.Sorts.{is_sorted}
use Rattle.term_tree.specs.Subterms.{IsSubterm, inside, itself}
use Rattle.term_tree.proofs.Public.{arena_below, sort_at}
use Rattle.lin_atoms.specs.Algebra.{name_in}
use Rattle.lin_atoms.specs.declared.form.Form.{Form}
use Rattle.linear_terms.specs.declared.standing.Standing.TheVariants.{Plain}
use Rattle.linear_terms.specs.Text.{places}
use Rattle.linear_terms.specs.Linear.{Naming}
use Rattle.linear_terms.specs.Place.{place_form}
use Rattle.linear_terms.specs.Width.{first_wide}
use Rattle.term_tables.specs.machinery.Table.{AreConstants, AreSorts, constant_in, sort_in}
use Rattle.term_tables.proofs.ConstantLemmas.{constants_are}
use Rattle.term_places.proofs.SortingLemmas.{placed_same}
use Rattle.term_widths.specs.Wide.{first_wide_by}
use Rattle.term_widths.specs.machinery.Apart.{AreAlike, AreNoVariables, is_variable_there, placed_naming}
use Rattle.term_widths.proofs.ConstantLemmas.{judged_same}
use Rattle.term_widths.proofs.PositionLemmas.{position_is}
use Rattle.term_widths.proofs.RenamingLemmas.{alike_judge}
use Rattle.term_formulas.specs.Written.{HasRoom, formula_by, place_forms_by}
use Rattle.term_formulas.specs.machinery.Fresh.{IsFresh}
use Rattle.term_formulas.specs.machinery.Parts.{ArePlaces, is_shaped}
use Rattle.term_formulas.proofs.RoomLemmas.{room_part}
use Rattle.clause_normal.specs.Normal.{place_forms}
use Rattle.clause_normal.proofs.AgreeLemmas.{formulas_same, place_same}
use Rattle.clause_normal.proofs.MadeLemmas.{from_moved, subterm_most}
use Rattle.clause_normal.proofs.PlaceLemmas.{IsPlaced, places_are, shaped_abs, shaped_div, shaped_ite, shaped_mod, some_sort, sorted_sub}
use Rattle.clause_laws.specs.Defined.{definition_forms, definition_places, definition_sorting, naming_at}
use Rattle.clause_laws.proofs.DefinitionLemmas.{body_there, parameter_there}
use Rattle.clause_defined.proofs.AlikeLemmas.{all_one, classes_judge, there_is_one}
use Rattle.clause_defined.specs.machinery.Classes.{HaveClasses}

some_number : (a b : ℕ) → Some a ≡ Some b → a ≡ b
some_number a b e = cc

got_middle : (before ids : List ℕ) (id : ℕ) → slice_get (before ++ id ∷ ids) (length before) ≡ Some id
got_middle [] ids id = refl
got_middle (b ∷ before) ids id = got_middle before ids id

through : (nodes : List Node) (top mid id : ℕ) → IsSubterm nodes top mid → IsSubterm nodes mid id → IsSubterm nodes top id
through nodes top mid id first itself = first
through nodes top mid id first (inside part node second is has) = inside part node (through nodes top mid _ first second) is has

no_variables : (nodes : List Node) (top : ℕ) (ids : List ℕ) → AllByRecursion (IsPlaced nodes top) ids → list_all (λ id. not (is_variable_there (slice_get nodes id))) ids ≡ true
no_variables nodes top [] all = refl
no_variables nodes top (id ∷ ids) all =
    let first : not (is_variable_there (slice_get nodes id)) ≡ true = ap (λ (o : Option Node). not (is_variable_there o)) all.0.is ∙ ap not all.0.other in
    ap (λ (b : Bool). b && list_all (λ (k : ℕ). not (is_variable_there (slice_get nodes k))) ids) first ∙ no_variables nodes top ids all.1

module _ (d : Definition) (sorts : List Sort) (is : IsFormula sorts d.terms.nodes d.body.0) where
  placed_all : AllByRecursion (IsPlaced d.terms.nodes d.body.0) (definition_places d)
  placed_all = places_are (definition_sorting d) d.terms.nodes is.arena d.body.0 (body_there d sorts is)

  pub places_no_variables : AreNoVariables d.terms.nodes (definition_places d)
  places_no_variables = no_variables d.terms.nodes d.body.0 (definition_places d) placed_all

  sub_within : (id : ℕ) → IsSubterm d.terms.nodes d.body.0 id → id < length d.terms.nodes
  sub_within id sub = let most = subterm_most d.terms.nodes is.arena d.body.0 id sub in let there = body_there d sorts is in omega (arith, most, there)

  -- the places by kept sorts
  pub places_found : d.body.0 < 2 ^ 32 → (kinds : List (Option Sort)) → AreSorts [] d.terms.nodes kinds → places (sort_in kinds) d.terms.nodes d.body.0 ≡ definition_places d
  places_found small kinds are =
      placed_same (sort_in kinds) (definition_sorting d) d.terms.nodes is.arena (d.body.0 + 1) (λ id less. are id (omega (arith, less, small))) (d.body.0 + 1)
      (record { id = d.body.0; standing = Plain }) (omega arith) (omega arith) (body_there d sorts is)

  -- what is kept of the terms is told of those of the definition
  module _ (small : d.body.0 < 2 ^ 32) (kinds : List (Option Sort)) (known : List (Option ℤ)) (are : AreSorts [] d.terms.nodes kinds) (kept : AreConstants d.terms.nodes known) where
    constants_kept : (q : ℕ) → IsSubterm d.terms.nodes d.body.0 q → q < length d.terms.nodes → constant_in known q ≡ constant_of d.terms.nodes q
    constants_kept q sub within =
        let most = subterm_most d.terms.nodes is.arena d.body.0 q sub in
        kept q (omega (arith, most, small)) ∙ constants_are d.terms.nodes d.body.0 is.arena is.legal.short (q + 1) q (omega arith) sub within

    sorts_kept : (q : ℕ) → IsSubterm d.terms.nodes d.body.0 q → q < length d.terms.nodes → sort_in kinds q ≡ definition_sorting d q
    sorts_kept q sub within = let most = subterm_most d.terms.nodes is.arena d.body.0 q sub in are q (omega (arith, most, small))

    pub judged_kept : (naming : Naming) → first_wide_by (constant_in known) naming d.terms.nodes d.body.0 ≡ first_wide naming d.terms.nodes d.body.0
    judged_kept naming = judged_same (constant_in known) naming d.terms.nodes d.body.0 is.arena constants_kept (body_there d sorts is)

    -- what is found under names that keep apart what the classes do
    pub judged_at : (args : List ℕ) (first : ℕ) (classes : List ℕ) → HaveClasses args first classes → length sorts ≡ length classes → (placed : List ℕ) → placed ≡ definition_places d → (naming : Naming)
        → AreAlike d.terms.nodes d.body.0 (placed_naming classes (length args) placed) naming → first_wide_by (constant_in known) naming d.terms.nodes d.body.0 ≡ first_wide (naming_at d args first) d.terms.nodes d.body.0
    judged_at args first classes have count placed are_placed naming alike =
        judged_kept naming
        ∙ sym (alike_judge d.terms.nodes d.body.0 (placed_naming classes (length args) (definition_places d)) naming is.arena
        (subst (λ (ids : List ℕ). AreAlike d.terms.nodes d.body.0 (placed_naming classes (length args) ids) naming) are_placed alike) (body_there d sorts is))
        ∙ sym (classes_judge d sorts is args first classes have count)

    -- at arguments at which it has room
    module _ (args : List ℕ) (first : ℕ) (count : length sorts ≡ length args) (below : AllByRecursion (λ v. v < first) args)
        (narrow : first_wide (naming_at d args first) d.terms.nodes d.body.0 ≡ None) where
      pub room_body : HasRoom (constant_in known) (naming_at d args first) d.terms.nodes d.body.0
      room_body = record {
        there = body_there d sorts is;
        narrow = judged_kept (naming_at d args first) ∙ narrow;
        linear = is.legal.linear;
        short = is.legal.short;
        constants = constants_kept;
      }

      room_sub : (id : ℕ) → IsSubterm d.terms.nodes d.body.0 id → HasRoom (constant_in known) (naming_at d args first) d.terms.nodes id
      room_sub _ itself = room_body
      room_sub _ (inside {id = id} part node sub at has) = room_part (constant_in known) (naming_at d args first) d.terms.nodes id part node is.arena (room_sub id sub) at has

      shaped_node : (id : ℕ) (node : Node) → slice_get d.terms.nodes id ≡ Some node → is_sorted (definition_sorting d id) ≡ true → is_shaped (Some node) ≡ true
      shaped_node id (Op Ite ids) at sorted =
          let s = some_sort (definition_sorting d id) sorted in
          shaped_ite (definition_sorting d) ids s.0 (sym (sort_at [] d.terms.nodes id (Op Ite ids) at (arena_below d.terms.nodes id (Op Ite ids) is.arena at)) ∙ s.1)
      shaped_node id (Op Abs ids) at sorted =
          let s = some_sort (definition_sorting d id) sorted in
          shaped_abs (definition_sorting d) ids s.0 (sym (sort_at [] d.terms.nodes id (Op Abs ids) at (arena_below d.terms.nodes id (Op Abs ids) is.arena at)) ∙ s.1)
      shaped_node id (Op Quotient ids) at sorted =
          let s = some_sort (definition_sorting d id) sorted in
          shaped_div (definition_sorting d) ids s.0 (sym (sort_at [] d.terms.nodes id (Op Quotient ids) at (arena_below d.terms.nodes id (Op Quotient ids) is.arena at)) ∙ s.1)
      shaped_node id (Op Remainder ids) at sorted =
          let s = some_sort (definition_sorting d id) sorted in
          shaped_mod (definition_sorting d) ids s.0 (sym (sort_at [] d.terms.nodes id (Op Remainder ids) at (arena_below d.terms.nodes id (Op Remainder ids) is.arena at)) ∙ s.1)
      shaped_node id _ at sorted = refl

      fresh_place : (before ids : List ℕ) (id : ℕ) → before ++ id ∷ ids ≡ definition_places d → IsPlaced d.terms.nodes d.body.0 id → IsFresh d.terms.nodes (naming_at d args first) (first + length before) id
      fresh_place before ids id whole place = record {
        alone = λ other named.
            let found = from_moved first (first + length before) (position (λ (p : ℕ). p == other) (definition_places d)) named in
            let at = position_is (λ (p : ℕ). p == other) (definition_places d) found.0 found.1 in
            let place_is : found.0 ≡ length before = let e : first + found.0 ≡ first + length before = found.2 in omega (arith, e) in
            let here : slice_get (definition_places d) found.0 ≡ Some id =
            ap (slice_get (definition_places d)) place_is ∙ ap (λ (xs : List ℕ). slice_get xs (length before)) (sym whole) ∙ got_middle before ids id in
            let same : at.element ≡ id = some_number at.element id (sym at.there ∙ here) in
            sym (eqb-true at.element other at.passes) ∙ same;
        apart = λ binder occurs named.
            let parameter = parameter_there d sorts is occurs.id binder occurs.sort (through d.terms.nodes d.body.0 id occurs.id place.sub occurs.below) occurs.is in
            let within : binder < length sorts = slice_get_within sorts binder occurs.sort parameter in
            let less : binder < length args = omega (arith, within, count) in
            let low : name_in args binder < first = all_one (λ v. v < first) args binder (name_in args binder) below (there_is_one args binder binder less) in
            let same : name_in args binder ≡ first + length before = named in
            omega (arith, low, same);
      }

      are_places : (before ids : List ℕ) (v : ℕ) → before ++ ids ≡ definition_places d → v ≡ first + length before → AllByRecursion (IsPlaced d.terms.nodes d.body.0) ids
          → ArePlaces (constant_in known) (naming_at d args first) d.terms.nodes v ids
      are_places before [] v whole number all = tt
      are_places before (id ∷ ids) v whole number all =
          let long : length (before ++ id ∷ []) ≡ length before + 1 = length-append before (id ∷ []) in (
            room_sub id all.0.sub,
            subst (λ (k : ℕ). IsFresh d.terms.nodes (naming_at d args first) k id) (sym number) (fresh_place before ids id whole all.0),
            ap is_shaped all.0.is ∙ shaped_node id all.0.node all.0.is (sorted_sub [] d.terms.nodes is.arena d.body.0 id (ap is_sorted is.legal.sorted) all.0.sub),
            are_places (before ++ id ∷ []) ids (v + 1) (append_assoc before (id ∷ []) ids ∙ whole) (omega (arith, number, long)) all.1,
          )

      pub room_places : ArePlaces (constant_in known) (naming_at d args first) d.terms.nodes first (definition_places d)
      room_places = are_places [] (definition_places d) first refl (omega arith) placed_all

      -- with tables the formulas are the rule's
      places_forms : (ids : List ℕ) (v : ℕ) → AllByRecursion (IsPlaced d.terms.nodes d.body.0) ids
          → place_forms_by (constant_in known) (sort_in kinds) (naming_at d args first) d.terms.nodes v ids ≡ place_forms (definition_sorting d) (naming_at d args first) d.terms.nodes v ids
      places_forms [] v all = refl
      places_forms (id ∷ ids) v all =
          ap (λ (f : Form). f ∷ place_forms_by (constant_in known) (sort_in kinds) (naming_at d args first) d.terms.nodes (v + 1) ids)
          (place_same (constant_in known) (sort_in kinds) (definition_sorting d) (naming_at d args first) d.terms.nodes d.body.0 is.arena constants_kept sorts_kept v id (sub_within id all.0.sub) all.0.sub)
          ∙ ap (λ (fs : List Form). place_form_here v id ∷ fs) (places_forms ids (v + 1) all.1)
        where
          place_form_here : ℕ → ℕ → Form
          place_form_here v id = place_form (definition_sorting d) (naming_at d args first) d.terms.nodes v id

      pub forms_kept : (sign : Bool) → place_forms_by (constant_in known) (sort_in kinds) (naming_at d args first) d.terms.nodes first (definition_places d)
          ++ formula_by (constant_in known) (sort_in kinds) (naming_at d args first) d.terms.nodes d.body.0 sign ∷ []
          ≡ definition_forms sign d args first
      forms_kept sign =
          ap (λ (fs : List Form). fs ++ formula_by (constant_in known) (sort_in kinds) (naming_at d args first) d.terms.nodes d.body.0 sign ∷ []) (places_forms (definition_places d) first placed_all)
          ∙ ap (λ (f : Form). place_forms (definition_sorting d) (naming_at d args first) d.terms.nodes first (definition_places d) ++ f ∷ [])
          (formulas_same (constant_in known) (sort_in kinds) (definition_sorting d) (naming_at d args first) d.terms.nodes d.body.0 is.arena constants_kept sorts_kept d.body.0 sign (body_there d sorts is) itself)

      -- with the names and the places that the code has
      module _ (naming : Naming) (named : naming ≡ naming_at d args first) (placed : List ℕ) (are_placed : placed ≡ definition_places d) where
        pub room_named : HasRoom (constant_in known) naming d.terms.nodes d.body.0
        room_named = subst (λ (n : Naming). HasRoom (constant_in known) n d.terms.nodes d.body.0) (sym named) room_body

        pub places_named : ArePlaces (constant_in known) naming d.terms.nodes first placed
        places_named =
            subst (λ (n : Naming). ArePlaces (constant_in known) n d.terms.nodes first placed) (sym named)
            (subst (λ (ids : List ℕ). ArePlaces (constant_in known) (naming_at d args first) d.terms.nodes first ids) (sym are_placed) room_places)

        pub forms_put : (sign : Bool) (old new : List Form)
            → new ≡ (old ++ place_forms_by (constant_in known) (sort_in kinds) naming d.terms.nodes first placed) ++ formula_by (constant_in known) (sort_in kinds) naming d.terms.nodes d.body.0 sign ∷ []
            → new ≡ old ++ definition_forms sign d args first
        forms_put sign old new made =
            made
            ∙ append_assoc old (place_forms_by (constant_in known) (sort_in kinds) naming d.terms.nodes first placed) (formula_by (constant_in known) (sort_in kinds) naming d.terms.nodes d.body.0 sign ∷ [])
            ∙ ap (λ (n : Naming). old ++ (place_forms_by (constant_in known) (sort_in kinds) n d.terms.nodes first placed ++ formula_by (constant_in known) (sort_in kinds) n d.terms.nodes d.body.0 sign ∷ [])) named
            ∙ ap (λ (ids : List ℕ). old ++ (place_forms_by (constant_in known) (sort_in kinds) (naming_at d args first) d.terms.nodes first ids
            ++ formula_by (constant_in known) (sort_in kinds) (naming_at d args first) d.terms.nodes d.body.0 sign ∷ [])) are_placed
            ∙ ap (λ (fs : List Form). old ++ fs) (forms_kept sign)
