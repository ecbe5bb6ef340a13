-- How the code's normal clause is that of the rule.
use Rattle.std.proofs.Common.{◌≡◌, ℕ, zero, suc, ◌+◌, ◌<◌, ◌≤◌, ◌==◌, ◌^◌, List, [], ◌∷◌, ◌++◌, length, map, Bool, true, not, ◌&&◌, refl, ap, sym, ◌∙◌, subst, arith, append_assoc}
use Rattle.std.proofs.lemmas.Bool.{eqb-true}
use Rattle.std.proofs.lemmas.List.{length-append}
use Rattle.std.proofs.lemmas.Option.{slice_get_within}
use Rattle.std.specs.Prelude.{slice_get, position, Option, Some, None, option_map, unwrap_or, ℤ, nat_lt}
use Rattle.std.specs.List.{AllByRecursion, list_all}
use Rattle.term_tree.specs.declared.sort.Sort.{Sort}
use Rattle.term_tree.specs.declared.sort.Sort.TheVariants.{Int, Bool as BoolSort}
use Rattle.term_tree.specs.declared.node.TermId.{TermId}
use Rattle.term_tree.specs.declared.node.OpKind.TheVariants.{Ite, Abs, Div as Quotient, Mod as Remainder}
use Rattle.term_tree.specs.declared.node.Node.{Node}
use Rattle.term_tree.specs.declared.node.Node.TheVariants.{Op, Pred}
use Rattle.term_tree.specs.declared.script.Assertion.{Assertion}
use Rattle.term_tree.specs.declared.script.Script.{Script}
use Rattle.term_tree.specs.Arena.{IsArena, is_below}
use Rattle.term_tree.specs.Constants.{constant_of}
use Rattle.term_tree.specs.Legal.{IsLegal, is_there, next_variable}
use Rattle.term_tree.specs.Sorts.{is_sorted, sort_of}
use Rattle.term_tree.specs.Subterms.{IsSubterm, inside, itself}
use Rattle.term_tree.proofs.Public.{arena_below, below_from, both_true, part_below, sort_at}
use Rattle.horn_shape.specs.declared.clause.AtomUse.{AtomUse}
use Rattle.horn_shape.specs.declared.clause.HornClause.{HornClause}
use Rattle.horn_shape.specs.declared.clause.Part.{Part}
use Rattle.horn_shape.specs.Clause.{IsClauseOf, IsLegalScript, content_of}
use Rattle.horn_shape.specs.Shape.{arguments}
use Rattle.horn_shape.proofs.ClauseLemmas.{sorted_there}
use Rattle.lin_atoms.specs.declared.form.Form.{Form}
use Rattle.linear_terms.specs.Linear.{naming_of}
use Rattle.linear_terms.specs.Place.{place_form}
use Rattle.term_tables.specs.machinery.Table.{AreConstants, AreSorts, constant_in, sort_in}
use Rattle.term_tables.proofs.ConstantLemmas.{constants_are}
use Rattle.term_widths.specs.Wide.{first_wide_by}
use Rattle.term_widths.specs.machinery.Apart.{AreNoVariables, AreOwnBelow, is_variable_there, placed_naming}
use Rattle.term_formulas.specs.Written.{HasRoom, place_forms_by}
use Rattle.term_formulas.specs.machinery.Fresh.{IsFresh}
use Rattle.term_formulas.specs.machinery.Parts.{ArePlaces, is_shaped}
use Rattle.clause_form.specs.declared.clause.Clause.{Clause}
use Rattle.clause_form.specs.System.{most_variables}
use Rattle.clause_normal.specs.Normal.{auxiliaries, bits_from, conjunction, first_without_room, guard_form, names_of, normal_atom, normal_clause, place_forms, sorting, variable_sorts, term_number, top_of}
use Rattle.clause_normal.specs.machinery.Making.{HasRoomFor, IsHeadThere, IsThere, clause_by, guard_by, parts_by}
use Rattle.clause_normal.proofs.AgreeLemmas.{formulas_same, place_same}
use Rattle.clause_normal.proofs.Lower.{judged_same, position_is, room_part}
use Rattle.clause_normal.proofs.OccurLemmas.{IsLow, closed_low}
use Rattle.clause_normal.proofs.PlaceLemmas.{IsPlaced, places_are, shaped_abs, shaped_div, shaped_ite, shaped_mod, some_sort, sorted_sub}
use Rattle.clause_normal.proofs.ReadLemmas.{HeadHas, Holds, clause_counts, clause_holds}

-- the names that the code makes are those of the rule: variables keep their numbers where no other is given
pub own_names : (first : ℕ) (placed : List ℕ) → placed_naming [] first placed ≡ naming_of first placed
own_names first placed = refl

pub all_map : {X : Type 0} (P Q : X → Type 0) (xs : List X) → ((x : X) → P x → Q x) → AllByRecursion P xs → AllByRecursion Q xs
all_map P Q [] f all = tt
all_map P Q (x ∷ xs) f all = (f x all.0, all_map P Q xs f all.1)

pub all_got : {X : Type 0} (P : X → Type 0) (xs : List X) (i : ℕ) (x : X) → AllByRecursion P xs → slice_get xs i ≡ Some x → P x
all_got P [] i x all is = absurd (cc)
all_got P (y ∷ xs) zero x all is = let same : y ≡ x = cc in subst P same all.0
all_got P (y ∷ xs) (suc i) x all is = all_got P xs i x all.1 is

pub subterm_most : (nodes : List Node) → IsArena nodes → (top id : ℕ) → IsSubterm nodes top id → id ≤ top
subterm_most nodes arena top _ itself = omega arith
subterm_most nodes arena top _ (inside {id = id} part node sub is has) =
    let less : part < id = part_below part id node (arena_below nodes id node arena is) has in
    let rest : id ≤ top = subterm_most nodes arena top id sub in
    omega (arith, less, rest)

numbered_there : (o : Option ℕ) → is_there o ≡ true → (n : ℕ) × (o ≡ Some n)
numbered_there None h = absurd (cc)
numbered_there (Some n) h = (n, refl)

some_number : (a b : ℕ) → Some a ≡ Some b → a ≡ b
some_number a b e = cc

-- the head of a content, as that of its clause
head_there : (nodes : List Node) (head : Option AtomUse) → HeadHas (IsThere nodes) head → IsHeadThere nodes head
head_there nodes None h = tt
head_there nodes (Some atom) h = h

got_middle : (before ids : List ℕ) (id : ℕ) → slice_get (before ++ id ∷ ids) (length before) ≡ Some id
got_middle [] ids id = refl
got_middle (b ∷ before) ids id = got_middle before ids id

pub from_moved : (n v : ℕ) (o : Option ℕ) → option_map (λ i. n + i) o ≡ Some v → (i : ℕ) × (o ≡ Some i) × (n + i ≡ v)
from_moved n v None h = absurd (cc)
from_moved n v (Some i) h = (i, refl, cc)

no_variables : (nodes : List Node) (top : ℕ) (ids : List ℕ) → AllByRecursion (IsPlaced nodes top) ids → list_all (λ id. not (is_variable_there (slice_get nodes id))) ids ≡ true
no_variables nodes top [] all = refl
no_variables nodes top (id ∷ ids) all =
    let first : not (is_variable_there (slice_get nodes id)) ≡ true = ap (λ (o : Option Node). not (is_variable_there o)) all.0.is ∙ ap not all.0.other in
    ap (λ (b : Bool). b && list_all (λ (k : ℕ). not (is_variable_there (slice_get nodes k))) ids) first ∙ no_variables nodes top ids all.1

arguments_there : (nodes : List Node) (id : ℕ) (lets args : List TermId) → id < length nodes → list_all (is_below id) args ≡ true → AllByRecursion (λ part. part.term.0 < length nodes) (arguments lets args)
arguments_there nodes id lets [] within below = tt
arguments_there nodes id lets (a ∷ args) within below =
    let both = both_true (nat_lt a.0 id) (list_all (is_below id) args) below in
    let less : a.0 < id = below_from a.0 id both.0 in
    (omega (arith, less, within), arguments_there nodes id lets args within both.1)

module _ (script : Script) (clause : HornClause) (arena : IsArena script.terms.nodes) (legal : IsLegalScript script) (is : IsClauseOf script clause.assertion clause) where
  pub top_is : top_of script clause ≡ is.assertion.term.0
  top_is = ap term_number is.there

  pub legal_top : IsLegal script.preds script.terms.nodes [] BoolSort (top_of script clause)
  legal_top =
      subst (λ (id : ℕ). IsLegal script.preds script.terms.nodes [] BoolSort id) (sym top_is)
      (all_got (λ (a : Assertion). IsLegal script.preds script.terms.nodes [] BoolSort a.term.0) script.asserts clause.assertion is.assertion legal.asserts is.there)

  pub top_within : top_of script clause < length script.terms.nodes
  top_within = sorted_there script.preds script.terms.nodes (top_of script clause) BoolSort legal_top.sorted

  -- the assertion's variables are below the number of its own
  pub low_top : IsLow script.terms.nodes (length clause.vars) (top_of script clause)
  low_top =
      let number = numbered_there (next_variable script.terms.nodes (top_of script clause) 0) legal_top.numbered in
      let here : next_variable script.terms.nodes is.assertion.term.0 0 ≡ Some number.0 = ap (λ (id : ℕ). next_variable script.terms.nodes id 0) (sym top_is) ∙ number.1 in
      let counted : number.0 ≡ 0 + length clause.vars =
      clause_counts script.terms.nodes arena (λ id. Unit {0}) (λ atom. Unit {0}) (λ id part node at has other p. tt) (λ id pred lets args at p. tt) is.assertion.term [] (content_of clause) 0 number.0 is.reading here in
      let count : number.0 ≡ length clause.vars = omega (arith, counted) in
      subst (λ (m : ℕ). IsLow script.terms.nodes m (top_of script clause)) count (closed_low script.terms.nodes arena (top_of script clause) number.0 legal_top.scoped number.1)

  pub own_below : AreOwnBelow script.terms.nodes (top_of script clause) [] (length clause.vars)
  own_below = λ binder occurs. low_top occurs.id binder occurs.sort occurs.below occurs.is

  -- the places
  pub placed_top : AllByRecursion (IsPlaced script.terms.nodes (top_of script clause)) (auxiliaries script clause)
  placed_top = places_are (sorting script) script.terms.nodes arena (top_of script clause) top_within

  pub places_no_variables : AreNoVariables script.terms.nodes (auxiliaries script clause)
  places_no_variables = no_variables script.terms.nodes (top_of script clause) (auxiliaries script clause) placed_top

  -- where the whole has room, so has each subterm
  module _ (constant : ℕ → Option ℤ) (agrees : (q : ℕ) → IsSubterm script.terms.nodes (top_of script clause) q → q < length script.terms.nodes → constant q ≡ constant_of script.terms.nodes q)
      (narrow : first_without_room script clause ≡ None) where
    room_top : HasRoom constant (names_of script clause) script.terms.nodes (top_of script clause)
    room_top = record {
      there = top_within;
      narrow = judged_same constant (names_of script clause) script.terms.nodes (top_of script clause) arena agrees top_within ∙ narrow;
      linear = legal_top.linear;
      short = legal_top.short;
      constants = agrees;
    }

    pub room_sub : (id : ℕ) → IsSubterm script.terms.nodes (top_of script clause) id → HasRoom constant (names_of script clause) script.terms.nodes id
    room_sub _ itself = room_top
    room_sub _ (inside {id = id} part node sub at has) = room_part constant (names_of script clause) script.terms.nodes id part node arena (room_sub id sub) at has

  -- what is kept of the terms is told of those of the assertion
  module _ (small : top_of script clause < 2 ^ 32) (sorts : List (Option Sort)) (known : List (Option ℤ)) (are : AreSorts script.preds script.terms.nodes sorts) (kept : AreConstants script.terms.nodes known) where
    pub constants_kept : (q : ℕ) → IsSubterm script.terms.nodes (top_of script clause) q → q < length script.terms.nodes → constant_in known q ≡ constant_of script.terms.nodes q
    constants_kept q sub within =
        let most : q ≤ top_of script clause = subterm_most script.terms.nodes arena (top_of script clause) q sub in
        kept q (omega (arith, most, small)) ∙ constants_are script.terms.nodes (top_of script clause) arena legal_top.short (q + 1) q (omega arith) sub within

    pub sorts_kept : (q : ℕ) → IsSubterm script.terms.nodes (top_of script clause) q → q < length script.terms.nodes → sort_in sorts q ≡ sorting script q
    sorts_kept q sub within =
        let most : q ≤ top_of script clause = subterm_most script.terms.nodes arena (top_of script clause) q sub in
        are q (omega (arith, most, small))

    -- 2. the first term without room, with constants by a table
    pub judged_is : first_wide_by (constant_in known) (names_of script clause) script.terms.nodes (top_of script clause) ≡ first_without_room script clause
    judged_is = judged_same (constant_in known) (names_of script clause) script.terms.nodes (top_of script clause) arena constants_kept top_within

    room_own : first_without_room script clause ≡ None → (id : ℕ) → IsSubterm script.terms.nodes (top_of script clause) id → HasRoom (constant_in known) (names_of script clause) script.terms.nodes id
    room_own narrow id sub = room_sub (constant_in known) constants_kept narrow id sub

    -- 4. where the whole has room, so has all that the clause is made of
    module _ (narrow : first_without_room script clause ≡ None) where
      shaped_node : (id : ℕ) (node : Node) → slice_get script.terms.nodes id ≡ Some node → is_sorted (sort_of script.preds script.terms.nodes id) ≡ true → is_shaped (Some node) ≡ true
      shaped_node id (Op Ite args) at sorted =
          let s = some_sort (sort_of script.preds script.terms.nodes id) sorted in
          shaped_ite (sort_of script.preds script.terms.nodes) args s.0 (sym (sort_at script.preds script.terms.nodes id (Op Ite args) at (arena_below script.terms.nodes id (Op Ite args) arena at)) ∙ s.1)
      shaped_node id (Op Abs args) at sorted =
          let s = some_sort (sort_of script.preds script.terms.nodes id) sorted in
          shaped_abs (sort_of script.preds script.terms.nodes) args s.0 (sym (sort_at script.preds script.terms.nodes id (Op Abs args) at (arena_below script.terms.nodes id (Op Abs args) arena at)) ∙ s.1)
      shaped_node id (Op Quotient args) at sorted =
          let s = some_sort (sort_of script.preds script.terms.nodes id) sorted in
          shaped_div (sort_of script.preds script.terms.nodes) args s.0 (sym (sort_at script.preds script.terms.nodes id (Op Quotient args) at (arena_below script.terms.nodes id (Op Quotient args) arena at)) ∙ s.1)
      shaped_node id (Op Remainder args) at sorted =
          let s = some_sort (sort_of script.preds script.terms.nodes id) sorted in
          shaped_mod (sort_of script.preds script.terms.nodes) args s.0 (sym (sort_at script.preds script.terms.nodes id (Op Remainder args) at (arena_below script.terms.nodes id (Op Remainder args) arena at)) ∙ s.1)
      shaped_node id _ at sorted = refl

      fresh_place : (before ids : List ℕ) (id : ℕ) → before ++ id ∷ ids ≡ auxiliaries script clause → IsPlaced script.terms.nodes (top_of script clause) id
          → IsFresh script.terms.nodes (names_of script clause) (length clause.vars + length before) id
      fresh_place before ids id whole place = record {
        alone = λ other named.
            let found = from_moved (length clause.vars) (length clause.vars + length before) (position (λ (p : ℕ). p == other) (auxiliaries script clause)) named in
            let at = position_is (λ (p : ℕ). p == other) (auxiliaries script clause) found.0 found.1 in
            let number : found.0 ≡ length before = let e : length clause.vars + found.0 ≡ length clause.vars + length before = found.2 in omega (arith, e) in
            let here : slice_get (auxiliaries script clause) found.0 ≡ Some id =
            ap (slice_get (auxiliaries script clause)) number ∙ ap (λ (xs : List ℕ). slice_get xs (length before)) (sym whole) ∙ got_middle before ids id in
            let same : at.element ≡ id = some_number at.element id (sym at.there ∙ here) in
            sym (eqb-true at.element other at.passes) ∙ same;
        apart = λ binder occurs named.
            let small_own : binder < length clause.vars = low_top occurs.id binder occurs.sort (inside_of id occurs.id place.sub occurs.below) occurs.is in
            let same : binder ≡ length clause.vars + length before = named in
            omega (arith, small_own, same);
      }
        where
          inside_of : (mid low : ℕ) → IsSubterm script.terms.nodes (top_of script clause) mid → IsSubterm script.terms.nodes mid low → IsSubterm script.terms.nodes (top_of script clause) low
          inside_of mid _ first itself = first
          inside_of mid _ first (inside {id = k} part node second at has) = inside part node (inside_of mid k first second) at has

      are_places : (before ids : List ℕ) (v : ℕ) → before ++ ids ≡ auxiliaries script clause → v ≡ length clause.vars + length before
          → AllByRecursion (IsPlaced script.terms.nodes (top_of script clause)) ids → ArePlaces (constant_in known) (names_of script clause) script.terms.nodes v ids
      are_places before [] v whole number all = tt
      are_places before (id ∷ ids) v whole number all =
          let long : length (before ++ id ∷ []) ≡ length before + 1 = length-append before (id ∷ []) in (
            room_own narrow id all.0.sub,
            subst (λ (k : ℕ). IsFresh script.terms.nodes (names_of script clause) k id) (sym number) (fresh_place before ids id whole all.0),
            ap is_shaped all.0.is ∙ shaped_node id all.0.node all.0.is (sorted_sub script.preds script.terms.nodes arena (top_of script clause) id (ap is_sorted legal_top.sorted) all.0.sub),
            are_places (before ++ id ∷ []) ids (v + 1) (append_assoc before (id ∷ []) ids ∙ whole) (omega (arith, number, long)) all.1,
          )

      parts_hold : Holds (IsSubterm script.terms.nodes (top_of script clause)) (IsThere script.terms.nodes) (content_of clause)
      parts_hold =
          clause_holds script.terms.nodes arena (IsSubterm script.terms.nodes (top_of script clause)) (IsThere script.terms.nodes) (λ id part node at has other sub. inside part node sub at has)
          (λ id pred lets args at sub. arguments_there script.terms.nodes id lets args (slice_get_within script.terms.nodes id (Pred pred args) at) (arena_below script.terms.nodes id (Pred pred args) arena at))
          is.assertion.term [] (content_of clause) is.reading (subst (λ (id : ℕ). IsSubterm script.terms.nodes (top_of script clause) id) top_is itself)

      pub room_for : length clause.vars + length (auxiliaries script clause) ≤ most_variables
          → HasRoomFor (constant_in known) (names_of script clause) script.terms.nodes clause (auxiliaries script clause)
      room_for few = record {
        few = few;
        guards = all_map (λ (part : Part). IsSubterm script.terms.nodes (top_of script clause) part.term.0) (λ (part : Part). HasRoom (constant_in known) (names_of script clause) script.terms.nodes part.term.0)
            clause.guards (λ part sub. room_own narrow part.term.0 sub) parts_hold.guards;
        places = are_places [] (auxiliaries script clause) (length clause.vars) refl (omega arith) placed_top;
        atoms = parts_hold.atoms;
        head = head_there script.terms.nodes clause.head parts_hold.head;
      }

      -- 5. with tables the clause is the rule's
      sub_within : (id : ℕ) → IsSubterm script.terms.nodes (top_of script clause) id → id < length script.terms.nodes
      sub_within id sub = let most : id ≤ top_of script clause = subterm_most script.terms.nodes arena (top_of script clause) id sub in let there = top_within in omega (arith, most, there)

      sorts_are : (ids : List ℕ) → AllByRecursion (IsPlaced script.terms.nodes (top_of script clause)) ids → map (λ id. unwrap_or (sort_in sorts id) Int) ids ≡ map (λ id. unwrap_or (sorting script id) Int) ids
      sorts_are [] all = refl
      sorts_are (id ∷ ids) all =
          ap (λ (o : Option Sort). unwrap_or o Int ∷ map (λ (k : ℕ). unwrap_or (sort_in sorts k) Int) ids) (sorts_kept id all.0.sub (sub_within id all.0.sub))
          ∙ ap (λ (ss : List Sort). unwrap_or (sorting script id) Int ∷ ss) (sorts_are ids all.1)

      places_are_forms : (ids : List ℕ) (v : ℕ) → AllByRecursion (IsPlaced script.terms.nodes (top_of script clause)) ids
          → place_forms_by (constant_in known) (sort_in sorts) (names_of script clause) script.terms.nodes v ids ≡ place_forms (sorting script) (names_of script clause) script.terms.nodes v ids
      places_are_forms [] v all = refl
      places_are_forms (id ∷ ids) v all =
          ap (λ (f : Form). f ∷ place_forms_by (constant_in known) (sort_in sorts) (names_of script clause) script.terms.nodes (v + 1) ids)
          (place_same (constant_in known) (sort_in sorts) (sorting script) (names_of script clause) script.terms.nodes (top_of script clause) arena constants_kept sorts_kept v id (sub_within id all.0.sub) all.0.sub)
          ∙ ap (λ (fs : List Form). place_form (sorting script) (names_of script clause) script.terms.nodes v id ∷ fs) (places_are_forms ids (v + 1) all.1)

      guards_are : (parts : List Part) → AllByRecursion (λ part. IsSubterm script.terms.nodes (top_of script clause) part.term.0) parts
          → map (guard_by (constant_in known) (sort_in sorts) (names_of script clause) script.terms.nodes) parts ≡ map (guard_form (sorting script) (names_of script clause) script.terms.nodes) parts
      guards_are [] all = refl
      guards_are (part ∷ parts) all =
          ap (λ (f : Form). f ∷ map (guard_by (constant_in known) (sort_in sorts) (names_of script clause) script.terms.nodes) parts)
          (formulas_same (constant_in known) (sort_in sorts) (sorting script) (names_of script clause) script.terms.nodes (top_of script clause) arena constants_kept sorts_kept part.term.0 (not part.negated)
          (sub_within part.term.0 all.0) all.0)
          ∙ ap (λ (fs : List Form). guard_form (sorting script) (names_of script clause) script.terms.nodes part ∷ fs) (guards_are parts all.1)

      pub clause_is : clause_by (constant_in known) (sort_in sorts) (names_of script clause) script.terms.nodes clause (auxiliaries script clause) ≡ normal_clause script clause
      clause_is =
          ap (λ (ss : List Sort). with_parts ss (conjunction (parts_by (constant_in known) (sort_in sorts) (names_of script clause) script.terms.nodes clause (auxiliaries script clause))))
          (ap (λ (ss : List Sort). clause.vars ++ ss) (sorts_are (auxiliaries script clause) placed_top))
          ∙ ap (λ (fs : List Form). with_parts (variable_sorts script clause) (conjunction (bits_from 0 clause.vars ++ fs ++ map (guard_by (constant_in known) (sort_in sorts) (names_of script clause) script.terms.nodes) clause.guards)))
          (places_are_forms (auxiliaries script clause) (length clause.vars) placed_top)
          ∙ ap (λ (fs : List Form). with_parts (variable_sorts script clause) (conjunction (bits_from 0 clause.vars ++ place_forms (sorting script) (names_of script clause) script.terms.nodes (length clause.vars) (auxiliaries script clause) ++ fs)))
          (guards_are clause.guards parts_hold.guards)
        where
          with_parts : List Sort → Form → Clause
          with_parts ss guard = record {
            assertion = clause.assertion;
            user = length clause.vars;
            sorts = ss;
            atoms = map (normal_atom (names_of script clause) script.terms.nodes) clause.atoms;
            guard = guard;
            head = option_map (normal_atom (names_of script clause) script.terms.nodes) clause.head;
          }
