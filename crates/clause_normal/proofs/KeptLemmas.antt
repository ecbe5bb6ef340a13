-- The normal clause of an assertion is as a system needs it.
use Rattle.std.proofs.Common.{◌≡◌, ℕ, suc, ◌+◌, ◌<◌, ◌≤◌, ◌==◌, ◌^◌, List, [], ◌∷◌, ◌++◌, length, map, Bool, true, false, not, ◌&&◌, ◌||◌, refl, ap, sym, ◌∙◌, subst, arith}
use Rattle.std.proofs.lemmas.Bool.{lt-ltb}
use Rattle.std.proofs.lemmas.Bool.Decides.{nat_tests}
use Rattle.std.proofs.lemmas.List.{length-append}
use Rattle.std.proofs.lemmas.Option.{slice_get-map, slice_get_within}
use Rattle.std.specs.Prelude.{slice_get, position, Option, Some, None, option_map, unwrap_or, ℤ, negsuc, nat_abs, nat_lt, nat_le, if◌then◌else◌}
use Rattle.std.specs.List.{AllByRecursion, list_all}
use Rattle.base.specs.Limits.{most_arguments}
use Rattle.term_tree.specs.declared.sort.Sort.{Sort}
use Rattle.term_tree.specs.declared.sort.Sort.TheVariants.{Int, Bool as BoolSort}
use Rattle.term_tree.specs.declared.script.Pred.{Pred as Declared}
use Rattle.term_tree.specs.declared.script.Script.{Script}
use Rattle.term_tree.specs.declared.node.TermId.{TermId}
use Rattle.term_tree.specs.declared.node.OpKind.{OpKind}
use Rattle.term_tree.specs.declared.node.OpKind.TheVariants.{Xor}
use Rattle.term_tree.specs.declared.node.Node.{Node}
use Rattle.term_tree.specs.declared.node.Node.TheVariants.{Num, True, False, Var, LetVar, Pred, Op, Divisible, Let, Forall, Exists}
use Rattle.term_tree.specs.Arena.{IsArena, has_parts_below}
use Rattle.term_tree.specs.Constants.{constant_of}
use Rattle.term_tree.specs.Sorts.{have_sorts, has_sort, is_sorted, sort_of}
use Rattle.term_tree.specs.Subterms.{IsSubterm, inside, is_among, itself}
use Rattle.term_tree.proofs.Public.{arena_below, both_true, part_below, sort_at, there_is}
use Rattle.horn_shape.specs.declared.clause.AtomUse.{AtomUse}
use Rattle.horn_shape.specs.declared.clause.HornClause.{HornClause}
use Rattle.horn_shape.specs.declared.clause.Part.{Part}
use Rattle.horn_shape.specs.Clause.{IsClauseOf, IsLegalScript, content_of}
use Rattle.horn_shape.specs.Shape.{arguments}
use Rattle.lin_atoms.specs.Linear.{Linear, is_short, lin_all}
use Rattle.lin_atoms.specs.Algebra.{negated, plus}
use Rattle.lin_atoms.specs.Truth.{is_below as names_below, lit_is_below}
use Rattle.lin_atoms.specs.declared.lit.Lit.{Lit as Literal}
use Rattle.lin_atoms.specs.declared.form.Form.{Form}
use Rattle.linear_terms.specs.Linear.{Naming, all_constants, bit_of, is_narrow, less, linear_of, sum_form, variable_form}
use Rattle.linear_terms.specs.Formula.{formula, le}
use Rattle.linear_terms.specs.Place.{place_form}
use Rattle.linear_terms.specs.Text.{is_variable}
use Rattle.linear_terms.specs.Width.{first_among, first_of_two, first_where, text_parts}
use Rattle.linear_terms.proofs.PartLemmas.{first_among as first_term, later_among}
use Rattle.linear_terms.specs.declared.standing.Standing.TheVariants.{Plain}
use Rattle.term_forms.specs.Found.{is_wide}
use Rattle.term_forms.proofs.FoundLemmas.{first_at}
use Rattle.term_widths.specs.Wide.{has_wide_sides}
use Rattle.term_widths.specs.machinery.Apart.{Occurs}
use Rattle.term_formulas.specs.Written.{HasRoom}
use Rattle.clause_form.specs.System.{has_arguments, has_short_in_guard, has_short_guard, is_atom, is_clause, is_head, most_variables}
use Rattle.clause_normal.specs.Normal.{argument_variable, auxiliaries, bits_from, conjunction, first_without_room, guard_form, clause_guard, guard_parts, is_too_large, most_atoms, most_own, names_of, normal_atom, normal_clause, place_forms, sorting, variable_sorts, top_of}
use Rattle.clause_normal.proofs.Lower.{position_is}
use Rattle.clause_normal.proofs.LowLemmas.{added_all, among_low, bit_low, collected_all, formula_passes, length_is, less_variable, linear_low, narrow_constant, negated_all, place_passes, scaled_all, sum_small, sums_low}
use Rattle.clause_normal.proofs.MadeLemmas.{all_got, all_map, from_moved, legal_top, low_top, placed_top, room_sub, top_is}
use Rattle.clause_normal.proofs.PassLemmas.{below_passes, joined_pass, le_passes, passes, passes-True, short_passes}
use Rattle.clause_normal.proofs.PlaceLemmas.{IsPlaced, predicate_is, some_sort, sorted_sub}
use Rattle.clause_normal.proofs.ReadLemmas.{HeadHas, Holds, clause_holds}
use Rattle.clause_normal.proofs.TextLemmas.{InText, argument_placed, placed_position, text_part}

both_hold : (a b : Bool) → a ≡ true → b ≡ true → (a && b) ≡ true
both_hold true b x y = y
both_hold false b x y = absurd (cc)

append_pass : (t : Literal → Bool) (xs ys : List Form) → list_all (passes t) xs ≡ true → list_all (passes t) ys ≡ true → list_all (passes t) (xs ++ ys) ≡ true
append_pass t [] ys a b = b
append_pass t (x ∷ xs) ys a b =
    let rest = both_true (passes t x) (list_all (passes t) xs) a in both_hold (passes t x) (list_all (passes t) (xs ++ ys)) rest.0 (append_pass t xs ys rest.1 b)

conjunction_pass : (t : Literal → Bool) (forms : List Form) → list_all (passes t) forms ≡ true → passes t (conjunction forms) ≡ true
conjunction_pass t [] h = passes-True t
conjunction_pass t (form ∷ []) h = joined_pass t true (form ∷ []) h
conjunction_pass t (form ∷ next ∷ forms) h = joined_pass t true (form ∷ next ∷ forms) h

none_first : (a b : Option ℕ) → first_of_two a b ≡ None → a ≡ None
none_first None b h = refl
none_first (Some id) b h = absurd (cc)

none_second : (a b : Option ℕ) → first_of_two a b ≡ None → b ≡ None
none_second None b h = h
none_second (Some id) b h = absurd (cc)

narrow_own : (constant : ℕ → Option ℤ) (naming : Naming) (nodes : List Node) (id : ℕ) → IsArena nodes → HasRoom constant naming nodes id → is_wide constant naming nodes id ≡ false
narrow_own constant naming nodes id arena room =
    let found = there_is nodes id room.there in
    let node : Node = found.0 in
    let is : slice_get nodes id ≡ Some node = found.1 in
    let below : has_parts_below id node ≡ true = arena_below nodes id node arena is in
    let forms : first_where (is_wide constant naming nodes) nodes id ≡ None =
    none_first (first_where (is_wide constant naming nodes) nodes id) (first_where (has_wide_sides constant naming nodes) nodes id) room.narrow in
    fails (is_wide constant naming nodes id)
    (none_second (first_among (first_where (is_wide constant naming nodes) nodes) (text_parts node)) (if is_wide constant naming nodes id then Some id else None)
    (sym (first_at (is_wide constant naming nodes) nodes id node is below) ∙ forms))
  where
    fails : (b : Bool) → (if b then Some id else None) ≡ None → b ≡ false
    fails true h = absurd (cc)
    fails false h = refl

narrow_is : (b : Bool) → not b ≡ false → b ≡ true
narrow_is true h = refl
narrow_is false h = absurd (cc)

last_false : (a b c : Bool) → (a || b || c) ≡ false → c ≡ false
last_false true b c h = absurd (cc)
last_false false true c h = absurd (cc)
last_false false false c h = h

le_from : (m n : ℕ) → nat_lt n m ≡ false → nat_le m n ≡ true
le_from m n h = grind (arith, nat_tests)

le_of : (m n : ℕ) → m ≤ n → nat_le m n ≡ true
le_of m n h = grind (arith, nat_tests)

same_of : (m n : ℕ) → m ≡ n → (m == n) ≡ true
same_of m n h = grind (arith, nat_tests)

sorts_long : (S : ℕ → Option Sort) (kinds : List Sort) (ids : List TermId) → have_sorts kinds (map (λ a. S a.0) ids) ≡ true → length ids ≡ length kinds
sorts_long S [] [] h = refl
sorts_long S [] (id ∷ ids) h = absurd (cc)
sorts_long S (kind ∷ kinds) [] h = absurd (cc)
sorts_long S (kind ∷ kinds) (id ∷ ids) h =
    ap suc (sorts_long S kinds ids (both_true (has_sort kind (S id.0)) (have_sorts kinds (map (λ (a : TermId). S a.0) ids)) h).1)

arguments_long : (lets args : List TermId) → length (arguments lets args) ≡ length args
arguments_long lets [] = refl
arguments_long lets (a ∷ args) = ap suc (arguments_long lets args)

mapped_all : {X Y : Type 0} (f : X → Y) (test : Y → Bool) (xs : List X) → AllByRecursion (λ x. test (f x) ≡ true) xs → list_all test (map f xs) ≡ true
mapped_all f test [] all = refl
mapped_all f test (x ∷ xs) all = both_hold (test (f x)) (list_all test (map f xs)) all.0 (mapped_all f test xs all.1)

module _ (script : Script) (clause : HornClause) (arena : IsArena script.terms.nodes) (legal : IsLegalScript script) (is : IsClauseOf script clause.assertion clause)
    (narrow : first_without_room script clause ≡ None) where
  -- as many variables as the clause has
  abbrev total : ℕ
  total = length (variable_sorts script clause)

  long : total ≡ length clause.vars + length (auxiliaries script clause)
  long =
      length-append clause.vars (map (λ id. unwrap_or (sorting script id) Int) (auxiliaries script clause))
      ∙ ap (λ (k : ℕ). length clause.vars + k) (length_is (λ id. unwrap_or (sorting script id) Int) (auxiliaries script clause))

  abbrev in_total : ℕ → Bool
  in_total v = nat_lt v total

  own_in : (binder : ℕ) → Occurs script.terms.nodes (top_of script clause) binder → in_total binder ≡ true
  own_in binder occurs =
      let small : binder < length clause.vars = low_top script clause arena legal is occurs.id binder occurs.sort occurs.below occurs.is in
      lt-ltb binder total (let e = long in omega (arith, small, e))

  place_in : (j : ℕ) → j < length (auxiliaries script clause) → in_total (length clause.vars + j) ≡ true
  place_in j less_than = lt-ltb (length clause.vars + j) total (let e = long in omega (arith, less_than, e))

  named_in : (id v : ℕ) → (names_of script clause).auxiliary id ≡ Some v → in_total v ≡ true
  named_in id v named =
      let found = from_moved (length clause.vars) v (position (λ (p : ℕ). p == id) (auxiliaries script clause)) named in
      let at = position_is (λ (p : ℕ). p == id) (auxiliaries script clause) found.0 found.1 in
      subst (λ (k : ℕ). in_total k ≡ true) found.2 (place_in found.0 at.within)

  room : (id : ℕ) → IsSubterm script.terms.nodes (top_of script clause) id → HasRoom (constant_of script.terms.nodes) (names_of script clause) script.terms.nodes id
  room id sub = room_sub script clause arena legal is (constant_of script.terms.nodes) (λ q s within. refl) narrow id sub

  -- a guard passes where its parts do
  module _ (t : Literal → Bool)
      (bits : (v : ℕ) → in_total v ≡ true → (passes t (le (negated (variable_form v))) ≡ true) × (passes t (le (plus (variable_form v) (negsuc 0))) ≡ true))
      (formulas : (id : ℕ) (sign : Bool) → IsSubterm script.terms.nodes (top_of script clause) id → passes t (formula (sorting script) (names_of script clause) script.terms.nodes id sign) ≡ true)
      (places : (v id : ℕ) → in_total v ≡ true → IsSubterm script.terms.nodes (top_of script clause) id → passes t (place_form (sorting script) (names_of script clause) script.terms.nodes v id) ≡ true) where
    bits_pass : (sorts : List Sort) (v : ℕ) → v + length sorts ≤ total → list_all (passes t) (bits_from v sorts) ≡ true
    bits_pass [] v fits = refl
    bits_pass (Int ∷ sorts) v fits = bits_pass sorts (v + 1) (omega (arith, fits))
    bits_pass (BoolSort ∷ sorts) v fits =
        let two = bits v (lt-ltb v total (omega (arith, fits))) in
        both_hold (passes t (le (negated (variable_form v)))) (list_all (passes t) (le (plus (variable_form v) (negsuc 0)) ∷ bits_from (v + 1) sorts)) two.0
        (both_hold (passes t (le (plus (variable_form v) (negsuc 0)))) (list_all (passes t) (bits_from (v + 1) sorts)) two.1 (bits_pass sorts (v + 1) (omega (arith, fits))))

    places_pass : (ids : List ℕ) (v : ℕ) → v + length ids ≤ total → AllByRecursion (IsPlaced script.terms.nodes (top_of script clause)) ids
        → list_all (passes t) (place_forms (sorting script) (names_of script clause) script.terms.nodes v ids) ≡ true
    places_pass [] v fits all = refl
    places_pass (id ∷ ids) v fits all =
        both_hold (passes t (place_form (sorting script) (names_of script clause) script.terms.nodes v id)) (list_all (passes t) (place_forms (sorting script) (names_of script clause) script.terms.nodes (v + 1) ids))
        (places v id (lt-ltb v total (omega (arith, fits))) all.0.sub) (places_pass ids (v + 1) (omega (arith, fits)) all.1)

    guards_pass : (parts : List Part) → AllByRecursion (λ part. IsSubterm script.terms.nodes (top_of script clause) part.term.0) parts
        → list_all (passes t) (map (guard_form (sorting script) (names_of script clause) script.terms.nodes) parts) ≡ true
    guards_pass [] all = refl
    guards_pass (part ∷ parts) all =
        both_hold (passes t (guard_form (sorting script) (names_of script clause) script.terms.nodes part)) (list_all (passes t) (map (guard_form (sorting script) (names_of script clause) script.terms.nodes) parts))
        (formulas part.term.0 (not part.negated) all.0) (guards_pass parts all.1)

    guard_passes : AllByRecursion (λ part. IsSubterm script.terms.nodes (top_of script clause) part.term.0) clause.guards → passes t (clause_guard script clause) ≡ true
    guard_passes all =
        let bits_forms : List Form = bits_from 0 clause.vars in
        let place_list : List Form = place_forms (sorting script) (names_of script clause) script.terms.nodes (length clause.vars) (auxiliaries script clause) in
        let guard_list : List Form = map (guard_form (sorting script) (names_of script clause) script.terms.nodes) clause.guards in
        conjunction_pass t (guard_parts script clause)
        (append_pass t (bits_forms ++ place_list) guard_list
        (append_pass t bits_forms place_list (bits_pass clause.vars 0 (let e = long in omega (arith, e)))
        (places_pass (auxiliaries script clause) (length clause.vars) (let e = long in omega (arith, e)) (placed_top script clause arena legal is)))
        (guards_pass clause.guards all))

  -- its variables are the clause's
  abbrev low : Linear → Type 0
  low l = lin_all in_total l ≡ true

  linear_in : (id : ℕ) → IsSubterm script.terms.nodes (top_of script clause) id → id < length script.terms.nodes → low (linear_of (names_of script clause) script.terms.nodes id)
  linear_in id sub within = linear_low (sorting script) (names_of script clause) script.terms.nodes (top_of script clause) arena in_total own_in named_in id sub within

  bit_in : (id : ℕ) → IsSubterm script.terms.nodes (top_of script clause) id → id < length script.terms.nodes → low (bit_of (names_of script clause) script.terms.nodes id)
  bit_in id sub within = (bit_low (sorting script) (names_of script clause) script.terms.nodes (top_of script clause) arena in_total own_in named_in id sub within).passes

  variable_in : (v : ℕ) → in_total v ≡ true → low (variable_form v)
  variable_in v h = both_hold (in_total v) true h refl

  sub_there : (id : ℕ) → IsSubterm script.terms.nodes (top_of script clause) id → id < length script.terms.nodes
  sub_there id sub = (room id sub).there

  arg_there : (id : ℕ) (args : List TermId) → IsSubterm script.terms.nodes (top_of script clause) id → slice_get script.terms.nodes id ≡ Some (Op Xor args) → (part : ℕ) → is_among part args ≡ true
      → part < length script.terms.nodes
  arg_there id args sub at part has =
      let less_than : part < id = part_below part id (Op Xor args) (arena_below script.terms.nodes id (Op Xor args) arena at) has in
      let within = sub_there id sub in
      omega (arith, less_than, within)

  sums_in : (id : ℕ) (args : List TermId) → IsSubterm script.terms.nodes (top_of script clause) id → slice_get script.terms.nodes id ≡ Some (Op Xor args)
      → low (sum_form (map (λ a. bit_of (names_of script clause) script.terms.nodes a.0) args))
  sums_in id args sub at =
      collected_all in_total _ (sums_low in_total (map (λ a. bit_of (names_of script clause) script.terms.nodes a.0) args)
      (among_low in_total (bit_of (names_of script clause) script.terms.nodes) args
      (λ part has. bit_low (sorting script) (names_of script clause) script.terms.nodes (top_of script clause) arena in_total own_in named_in part (inside part (Op Xor args) sub at has) (arg_there id args sub at part has))))

  less_in : (id v : ℕ) → IsSubterm script.terms.nodes (top_of script clause) id → id < length script.terms.nodes → in_total v ≡ true
      → low (less (linear_of (names_of script clause) script.terms.nodes id) (variable_form v))
  less_in id v sub within h =
      added_all in_total (linear_of (names_of script clause) script.terms.nodes id) (negated (variable_form v)) (linear_in id sub within) (negated_all in_total (variable_form v) (variable_in v h))

  guard_below : AllByRecursion (λ part. IsSubterm script.terms.nodes (top_of script clause) part.term.0) clause.guards → names_below total (clause_guard script clause) ≡ true
  guard_below all =
      below_passes total (clause_guard script clause)
      ∙ guard_passes (lit_is_below total)
      (λ v h. (
        le_passes (lit_is_below total) low (λ l ok. ok) (λ l ok. ok) (negated_all in_total) (added_all in_total) (λ l k ok. ok) (scaled_all in_total) (negated (variable_form v)) (negated_all in_total (variable_form v) (variable_in v h)),
        le_passes (lit_is_below total) low (λ l ok. ok) (λ l ok. ok) (negated_all in_total) (added_all in_total) (λ l k ok. ok) (scaled_all in_total) (plus (variable_form v) (negsuc 0)) (variable_in v h),
      ))
      (λ id sign sub. formula_passes (sorting script) (names_of script clause) script.terms.nodes (top_of script clause) arena in_total own_in named_in (lit_is_below total) low (λ l ok. ok) (λ l ok. ok)
      (negated_all in_total) (added_all in_total) (λ l k ok. ok) (scaled_all in_total) linear_in bit_in variable_in (λ k d s w. (linear_in k s w, linear_in k s w))
      (λ k v d s w h. (less_in k v s w h, less_in k v s w h)) (λ k args s at. (sums_in k args s at, sums_in k args s at)) id sign (sub_there id sub) sub)
      (λ v id h sub. place_passes (sorting script) (names_of script clause) script.terms.nodes (top_of script clause) arena in_total own_in named_in (lit_is_below total) low (λ l ok. ok) (λ l ok. ok)
      (negated_all in_total) (added_all in_total) (λ l k ok. ok) (scaled_all in_total) linear_in bit_in variable_in (λ k d s w. (linear_in k s w, linear_in k s w))
      (λ k u d s w g. (less_in k u s w g, less_in k u s w g)) (λ k args s at. (sums_in k args s at, sums_in k args s at)) v id h (sub_there id sub) sub)
      all

  -- constants of divisibilities are short
  linear_short : (id : ℕ) → IsSubterm script.terms.nodes (top_of script clause) id → is_short (linear_of (names_of script clause) script.terms.nodes id).constant ≡ true
  linear_short id sub =
      narrow_constant (linear_of (names_of script clause) script.terms.nodes id)
      (narrow_is (is_narrow (linear_of (names_of script clause) script.terms.nodes id)) (narrow_own (constant_of script.terms.nodes) (names_of script clause) script.terms.nodes id arena (room id sub)))

  abbrev any_form : Linear → Type 0
  any_form l = Unit {0}

  module _ (few_args : (id : ℕ) (op : OpKind) (args : List TermId) → IsSubterm script.terms.nodes (top_of script clause) id → slice_get script.terms.nodes id ≡ Some (Op op args) → length args < 2 ^ 63) where
    sum_short : (id : ℕ) (args : List TermId) → IsSubterm script.terms.nodes (top_of script clause) id → slice_get script.terms.nodes id ≡ Some (Op Xor args)
        → is_short (sum_form (map (λ a. bit_of (names_of script clause) script.terms.nodes a.0) args)).constant ≡ true
    sum_short id args sub at =
        let bits : List Linear = map (λ (a : TermId). bit_of (names_of script clause) script.terms.nodes a.0) args in
        let small : nat_abs (all_constants bits) ≤ length bits = sum_small in_total bits
        (among_low in_total (bit_of (names_of script clause) script.terms.nodes) args
        (λ part has. bit_low (sorting script) (names_of script clause) script.terms.nodes (top_of script clause) arena in_total own_in named_in part (inside part (Op Xor args) sub at has) (arg_there id args sub at part has))) in
        let same : length bits ≡ length args = length_is (λ (a : TermId). bit_of (names_of script clause) script.terms.nodes a.0) args in
        let few : length args < 2 ^ 63 = few_args id Xor args sub at in
        lt-ltb (nat_abs (all_constants bits)) (2 ^ 63) (omega (arith, small, same, few))

    guard_short : AllByRecursion (λ part. IsSubterm script.terms.nodes (top_of script clause) part.term.0) clause.guards → has_short_guard (clause_guard script clause) ≡ true
    guard_short all =
        short_passes (clause_guard script clause)
        ∙ guard_passes has_short_in_guard
        (λ v h. (
          le_passes has_short_in_guard any_form (λ l ok. refl) (λ l ok. refl) (λ l ok. tt) (λ a b x y. tt) (λ l k ok. tt) (λ k l ok. tt) (negated (variable_form v)) tt,
          le_passes has_short_in_guard any_form (λ l ok. refl) (λ l ok. refl) (λ l ok. tt) (λ a b x y. tt) (λ l k ok. tt) (λ k l ok. tt) (plus (variable_form v) (negsuc 0)) tt,
        ))
        (λ id sign sub. formula_passes (sorting script) (names_of script clause) script.terms.nodes (top_of script clause) arena in_total own_in named_in has_short_in_guard any_form (λ l ok. refl) (λ l ok. refl)
        (λ l ok. tt) (λ a b x y. tt) (λ l k ok. tt) (λ k l ok. tt) (λ k s w. tt) (λ k s w. tt) (λ v h. tt) (λ k d s w. (linear_short k s, linear_short k s))
        (λ k v d s w h. (less_short k v s, less_short k v s)) (λ k args s at. (sum_short k args s at, sum_short k args s at)) id sign (sub_there id sub) sub)
        (λ v id h sub. place_passes (sorting script) (names_of script clause) script.terms.nodes (top_of script clause) arena in_total own_in named_in has_short_in_guard any_form (λ l ok. refl) (λ l ok. refl)
        (λ l ok. tt) (λ a b x y. tt) (λ l k ok. tt) (λ k l ok. tt) (λ k s w. tt) (λ k s w. tt) (λ u g. tt) (λ k d s w. (linear_short k s, linear_short k s))
        (λ k u d s w g. (less_short k u s, less_short k u s)) (λ k args s at. (sum_short k args s at, sum_short k args s at)) v id h (sub_there id sub) sub)
        all
      where
        less_short : (id v : ℕ) → IsSubterm script.terms.nodes (top_of script clause) id → is_short (less (linear_of (names_of script clause) script.terms.nodes id) (variable_form v)).constant ≡ true
        less_short id v sub = less_variable (linear_of (names_of script clause) script.terms.nodes id) v (linear_short id sub)

    -- atoms
    abbrev sorts_given : List (List Sort)
    sorts_given = map (λ (p : Declared). p.args) script.preds

    abbrev KeptAtom : AtomUse → Type 0
    KeptAtom atom = is_atom sorts_given total (normal_atom (names_of script clause) script.terms.nodes atom) ≡ true

    abbrev InClause : ℕ → Type 0
    InClause id = IsSubterm script.terms.nodes (top_of script clause) id × InText (sorting script) script.terms.nodes arena (auxiliaries script clause) id

    argument_in : (id pred : ℕ) (args : List TermId) → slice_get script.terms.nodes id ≡ Some (Pred pred args) → InClause id → (part : ℕ) → is_among part args ≡ true
        → in_total (argument_variable (names_of script clause).auxiliary part (slice_get script.terms.nodes part)) ≡ true
    argument_in id pred args at inner part has =
        let less_than : part < id = part_below part id (Pred pred args) (arena_below script.terms.nodes id (Pred pred args) arena at) has in
        let within = slice_get_within script.terms.nodes id (Pred pred args) at in
        let found = there_is script.terms.nodes part (omega (arith, less_than, within)) in
        ap (λ (o : Option Node). in_total (argument_variable (names_of script clause).auxiliary part o)) found.1 ∙ by_node found.0 found.1
      where
        named_part : (node : Node) → slice_get script.terms.nodes part ≡ Some node → is_variable node ≡ false → in_total (unwrap_or ((names_of script clause).auxiliary part) 0) ≡ true
        named_part node part_is other =
            let place = placed_position part (auxiliaries script clause) (argument_placed (sorting script) script.terms.nodes arena (auxiliaries script clause) id pred args part node at inner.1 has part_is other) in
            let at_place = position_is (λ (p : ℕ). p == part) (auxiliaries script clause) place.0 place.1 in
            ap (λ (o : Option ℕ). in_total (unwrap_or (option_map (λ i. length clause.vars + i) o) 0)) place.1 ∙ place_in place.0 at_place.within

        by_node : (node : Node) → slice_get script.terms.nodes part ≡ Some node → in_total (argument_variable (names_of script clause).auxiliary part (Some node)) ≡ true
        by_node (Var binder kind) part_is = own_in binder (record { id = part; sort = kind; below = inside part (Pred pred args) inner.0 at has; is = part_is })
        by_node (Num n) part_is = named_part (Num n) part_is refl
        by_node True part_is = named_part True part_is refl
        by_node False part_is = named_part False part_is refl
        by_node (LetVar bound) part_is = named_part (LetVar bound) part_is refl
        by_node (Pred other given) part_is = named_part (Pred other given) part_is refl
        by_node (Op op given) part_is = named_part (Op op given) part_is refl
        by_node (Divisible by arg) part_is = named_part (Divisible by arg) part_is refl
        by_node (Let bound body) part_is = named_part (Let bound body) part_is refl
        by_node (Forall first kinds body) part_is = named_part (Forall first kinds body) part_is refl
        by_node (Exists first kinds body) part_is = named_part (Exists first kinds body) part_is refl

    arguments_in : (lets args : List TermId) → ((part : ℕ) → is_among part args ≡ true → in_total (argument_variable (names_of script clause).auxiliary part (slice_get script.terms.nodes part)) ≡ true)
        → list_all in_total (map (λ part. argument_variable (names_of script clause).auxiliary part.term.0 (slice_get script.terms.nodes part.term.0)) (arguments lets args)) ≡ true
    arguments_in lets [] each = refl
    arguments_in lets (a ∷ args) each =
        both_hold (in_total (argument_variable (names_of script clause).auxiliary a.0 (slice_get script.terms.nodes a.0)))
        (list_all in_total (map (λ (part : Part). argument_variable (names_of script clause).auxiliary part.term.0 (slice_get script.terms.nodes part.term.0)) (arguments lets args)))
        (each a.0 (first_term a args)) (arguments_in lets args (λ part has. each part (later_among part a args has)))

    atom_kept : (id pred : ℕ) (lets args : List TermId) → slice_get script.terms.nodes id ≡ Some (Pred pred args) → InClause id → KeptAtom (record { pred = pred; args = arguments lets args })
    atom_kept id pred lets args at inner =
        let sorted = some_sort (sort_of script.preds script.terms.nodes id)
        (sorted_sub script.preds script.terms.nodes arena (top_of script clause) id (ap is_sorted (legal_top script clause arena legal is).sorted) inner.0) in
        let p = predicate_is (slice_get script.preds pred) (map (λ (a : TermId). sort_of script.preds script.terms.nodes a.0) args) sorted.0
        (sym (sort_at script.preds script.terms.nodes id (Pred pred args) at (arena_below script.terms.nodes id (Pred pred args) arena at)) ∙ sorted.1) in
        let given : slice_get sorts_given pred ≡ Some p.0.args = slice_get-map (λ (d : Declared). d.args) script.preds pred ∙ ap (option_map (λ (d : Declared). d.args)) p.1 in
        let variables : List ℕ = map (λ (part : Part). argument_variable (names_of script clause).auxiliary part.term.0 (slice_get script.terms.nodes part.term.0)) (arguments lets args) in
        let many : length variables ≡ length args =
        length_is (λ (part : Part). argument_variable (names_of script clause).auxiliary part.term.0 (slice_get script.terms.nodes part.term.0)) (arguments lets args) ∙ arguments_long lets args in
        let kinds : length args ≡ length p.0.args = sorts_long (sort_of script.preds script.terms.nodes) p.0.args args p.2 in
        let few : length p.0.args ≤ most_arguments = all_got (λ (d : Declared). length d.args ≤ most_arguments) script.preds pred p.0 legal.few_args p.1 in
        both_hold (has_arguments (slice_get sorts_given pred) variables) (list_all in_total variables)
        (ap (λ (o : Option (List Sort)). has_arguments o variables) given
        ∙ both_hold (length variables == length p.0.args) (nat_le (length variables) most_arguments) (same_of (length variables) (length p.0.args) (many ∙ kinds))
        (le_of (length variables) most_arguments (omega (arith, many, kinds, few))))
        (arguments_in lets args (argument_in id pred args at inner))

    head_kept : (head : Option AtomUse) → HeadHas KeptAtom head → is_head sorts_given total (option_map (normal_atom (names_of script clause) script.terms.nodes) head) ≡ true
    head_kept None h = refl
    head_kept (Some atom) h = h

    clause_parts : Holds InClause KeptAtom (content_of clause)
    clause_parts =
        clause_holds script.terms.nodes arena InClause KeptAtom
        (λ id part node at has other inner. (inside part node inner.0 at has, text_part (sorting script) script.terms.nodes arena (auxiliaries script clause) id part node at has other inner.1)) atom_kept
        is.assertion.term [] (content_of clause) is.reading
        (subst (λ (id : ℕ). InClause id) (top_is script clause arena legal is) (itself, (Plain, λ q h. h)))

    pub clause_kept : is_too_large script clause ≡ false → is_clause sorts_given (normal_clause script clause) ≡ true
    clause_kept few =
        let parts = clause_parts in
        let subs = all_map (λ (part : Part). InClause part.term.0) (λ (part : Part). IsSubterm script.terms.nodes (top_of script clause) part.term.0) clause.guards (λ part inner. inner.0) parts.guards in
        let size : nat_lt most_variables (length clause.vars + length (auxiliaries script clause)) ≡ false =
        last_false (nat_lt most_own (length clause.vars)) (nat_lt most_atoms (length clause.atoms)) (nat_lt most_variables (length clause.vars + length (auxiliaries script clause))) few in
        let own : nat_le (length clause.vars) total ≡ true = le_of (length clause.vars) total (let e = long in omega (arith, e)) in
        let most : nat_le total most_variables ≡ true = ap (λ (k : ℕ). nat_le k most_variables) long ∙ le_from (length clause.vars + length (auxiliaries script clause)) most_variables size in
        let atoms : list_all (is_atom sorts_given total) (map (normal_atom (names_of script clause) script.terms.nodes) clause.atoms) ≡ true =
        mapped_all (normal_atom (names_of script clause) script.terms.nodes) (is_atom sorts_given total) clause.atoms parts.atoms in
        both_hold _ (has_short_guard (clause_guard script clause))
        (both_hold _ (names_below total (clause_guard script clause))
        (both_hold _ (is_head sorts_given total (option_map (normal_atom (names_of script clause) script.terms.nodes) clause.head))
        (both_hold _ (list_all (is_atom sorts_given total) (map (normal_atom (names_of script clause) script.terms.nodes) clause.atoms))
        (both_hold (nat_le (length clause.vars) total) (nat_le total most_variables) own most) atoms)
        (head_kept clause.head parts.head)) (guard_below subs)) (guard_short subs)
