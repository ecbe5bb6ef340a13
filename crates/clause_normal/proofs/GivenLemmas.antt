-- What the code has of an assertion, with the names that it made, against the rule.
use Rattle.std.proofs.Common.{◌≡◌, ℕ, ◌+◌, ◌<◌, ◌≤◌, ◌^◌, List, [], length, Bool, true, false, ◌||◌, arith, refl, ap, sym, ◌∙◌, subst}
use Rattle.std.proofs.lemmas.Bool.{lt-ltb}
use Rattle.std.specs.Prelude.{Option, None, nat_lt}
use Rattle.term_tree.specs.declared.script.Script.{Script}
use Rattle.term_tree.specs.Arena.{IsArena}
use Rattle.horn_shape.specs.declared.clause.HornClause.{HornClause}
use Rattle.linear_terms.specs.Linear.{Naming}
use Rattle.linear_terms.specs.declared.standing.Standing.TheVariants.{Plain}
use Rattle.linear_terms.specs.Text.{places}
use Rattle.term_places.proofs.SortingLemmas.{placed_same}
use Rattle.term_tables.specs.machinery.Table.{constant_in, sort_in}
use Rattle.term_widths.specs.Wide.{first_wide_by}
use Rattle.term_widths.specs.machinery.Apart.{AreAlike, AreNoVariables, AreOwnBelow, placed_naming}
use Rattle.clause_form.specs.System.{most_variables}
use Rattle.clause_normal.specs.declared.tables.Tables.{Tables}
use Rattle.clause_normal.specs.Normal.{auxiliaries, first_without_room, is_too_large, most_atoms, most_own, names_of, normal_clause, sorting, top_of}
use Rattle.clause_normal.specs.Stopping.{IsWideAt}
use Rattle.clause_normal.specs.machinery.Making.{HasFirst, HasRoomFor, IsGiven, clause_by}
use Rattle.clause_normal.proofs.Lower.{alike_judge, judged_same}
use Rattle.clause_normal.proofs.MadeLemmas.{clause_is, constants_kept, judged_is, own_below, places_no_variables, room_for, top_within}

module _ (script : Script) (tables : Tables) (clause : HornClause) (given : IsGiven script tables clause) (arena : IsArena script.terms.nodes) where
  pub within_here : (top : ℕ) → top ≡ top_of script clause → top < length script.terms.nodes
  within_here top is = subst (λ (id : ℕ). id < length script.terms.nodes) (sym is) (top_within script clause arena given.legal given.own)

  module _ (top : ℕ) (is : top ≡ top_of script clause) (small : top < 2 ^ 32) where
    small_top : top_of script clause < 2 ^ 32
    small_top = subst (λ (id : ℕ). id < 2 ^ 32) is small

    pub judged_here : (naming : Naming) → naming ≡ names_of script clause → first_wide_by (constant_in tables.constants) naming script.terms.nodes top ≡ first_without_room script clause
    judged_here naming named =
        ap (λ (n : Naming). first_wide_by (constant_in tables.constants) n script.terms.nodes top) named
        ∙ ap (λ (id : ℕ). first_wide_by (constant_in tables.constants) (names_of script clause) script.terms.nodes id) is
        ∙ judged_is script clause arena given.legal given.own small_top tables.sorts tables.constants given.kept.sorts given.kept.constants

    pub places_here : places (sort_in tables.sorts) script.terms.nodes top ≡ auxiliaries script clause
    places_here =
        ap (λ (id : ℕ). places (sort_in tables.sorts) script.terms.nodes id) is
        ∙ placed_same (sort_in tables.sorts) (sorting script) script.terms.nodes arena (top_of script clause + 1)
        (λ id less. let number : id < 2 ^ 32 = let e = small_top in omega (arith, less, e) in given.kept.sorts id number) (top_of script clause + 1)
        (record { id = top_of script clause; standing = Plain }) (omega arith) (omega arith) (top_within script clause arena given.legal given.own)

    pub room_here : (naming : Naming) (placed : List ℕ) → naming ≡ names_of script clause → placed ≡ auxiliaries script clause → first_without_room script clause ≡ None
        → length clause.vars + length placed ≤ most_variables → HasRoomFor (constant_in tables.constants) naming script.terms.nodes clause placed
    room_here naming placed named are narrow few =
        subst (λ (n : Naming). HasRoomFor (constant_in tables.constants) n script.terms.nodes clause placed) (sym named)
        (subst (λ (ids : List ℕ). HasRoomFor (constant_in tables.constants) (names_of script clause) script.terms.nodes clause ids) (sym are)
        (room_for script clause arena given.legal given.own small_top tables.sorts tables.constants given.kept.sorts given.kept.constants narrow
        (subst (λ (ids : List ℕ). length clause.vars + length ids ≤ most_variables) are few)))

    pub clause_here : (naming : Naming) (placed : List ℕ) → naming ≡ names_of script clause → placed ≡ auxiliaries script clause → first_without_room script clause ≡ None
        → clause_by (constant_in tables.constants) (sort_in tables.sorts) naming script.terms.nodes clause placed ≡ normal_clause script clause
    clause_here naming placed named are narrow =
        ap (λ (n : Naming). clause_by (constant_in tables.constants) (sort_in tables.sorts) n script.terms.nodes clause placed) named
        ∙ ap (λ (ids : List ℕ). clause_by (constant_in tables.constants) (sort_in tables.sorts) (names_of script clause) script.terms.nodes clause ids) are
        ∙ clause_is script clause arena given.legal given.own small_top tables.sorts tables.constants given.kept.sorts given.kept.constants narrow

    pub variables_apart : (placed : List ℕ) → placed ≡ auxiliaries script clause → AreNoVariables script.terms.nodes placed
    variables_apart placed are = subst (λ (ids : List ℕ). AreNoVariables script.terms.nodes ids) (sym are) (places_no_variables script clause arena given.legal given.own)

    pub own_here : AreOwnBelow script.terms.nodes top [] (length clause.vars)
    own_here = subst (λ (id : ℕ). AreOwnBelow script.terms.nodes id [] (length clause.vars)) (sym is) (own_below script clause arena given.legal given.own)

    pub apart_here : (naming : Naming) (placed : List ℕ) → placed ≡ auxiliaries script clause → AreAlike script.terms.nodes top (placed_naming [] (length clause.vars) placed) naming
        → first_wide_by (constant_in tables.constants) naming script.terms.nodes top ≡ first_without_room script clause
    apart_here naming placed are alike =
        let same : top_of script clause ≡ top = sym is in
        let other : AreAlike script.terms.nodes (top_of script clause) (names_of script clause) naming =
        subst (λ (id : ℕ). AreAlike script.terms.nodes id (names_of script clause) naming) is
        (subst (λ (ids : List ℕ). AreAlike script.terms.nodes top (placed_naming [] (length clause.vars) ids) naming) are alike) in
        ap (λ (id : ℕ). first_wide_by (constant_in tables.constants) naming script.terms.nodes id) is
        ∙ judged_same (constant_in tables.constants) naming script.terms.nodes (top_of script clause) arena
        (constants_kept script clause arena given.legal given.own small_top tables.sorts tables.constants given.kept.sorts given.kept.constants)
        (top_within script clause arena given.legal given.own)
        ∙ sym (alike_judge script.terms.nodes (top_of script clause) (names_of script clause) naming arena other (top_within script clause arena given.legal given.own))

-- the first term that is found is that of the rule
pub wide_here : (script : Script) (clause : HornClause) (found : Option ℕ) (offset : ℕ) → found ≡ first_without_room script clause → HasFirst found script.terms.offsets offset → IsWideAt script clause offset
wide_here script clause found offset same first = record { term = first.term; wide = sym same ∙ first.is; start = first.start }

-- whether there is too much of it
pub large_here : (script : Script) (clause : HornClause) (placed : List ℕ) (b : Bool) → placed ≡ auxiliaries script clause
    → (nat_lt most_own (length clause.vars) || nat_lt most_atoms (length clause.atoms) || nat_lt most_variables (length clause.vars + length placed)) ≡ b → is_too_large script clause ≡ b
large_here script clause placed b are is =
    sym (ap (λ (ids : List ℕ). nat_lt most_own (length clause.vars) || nat_lt most_atoms (length clause.atoms) || nat_lt most_variables (length clause.vars + length ids)) are) ∙ is

last_true : (a b c : Bool) → c ≡ true → (a || b || c) ≡ true
last_true true b c h = refl
last_true false true c h = refl
last_true false false c h = h

pub many_here : (script : Script) (clause : HornClause) (placed : List ℕ) → placed ≡ auxiliaries script clause → most_variables < length clause.vars + length placed → is_too_large script clause ≡ true
many_here script clause placed are more =
    large_here script clause placed true are
    (last_true (nat_lt most_own (length clause.vars)) (nat_lt most_atoms (length clause.atoms)) (nat_lt most_variables (length clause.vars + length placed)) (lt-ltb most_variables (length clause.vars + length placed) more))
