use Rattle.std.proofs.Common.{FitsSigned, List, Ok, ap, false, ◌∙◌, refl, rules, subst, sym}
use Rattle.std.specs.Prelude.{ℤ}
use Rattle.std.specs.Int.{w64}
use Rattle.std.specs.List.{list_all}
use Rattle.std.proofs.lemmas.Int.{to_z-of_z}
use Rattle.simplex_core.specs.Meaning.{IsConflict}
use Rattle.lia_node.specs.Known.{are_known, has_short_constant}
use Rattle.lia_node.specs.Nodes.{node_table}
use Rattle.lia_stack.proofs.Public.{closes-after, moved, top, top-known, top-short}
use Rattle.lia_search.proofs.RunLemmas.{closes-goes, same-first, told, told-few, turns-after}
use Rattle.lia_search.proofs.running.turn.Goals as goal

pub examine-requires-clause-known : goal.examine-requires-clause-known
examine-requires-clause-known c = ap (are_known c.args.search.now.end) c.as_slice.ensures ∙ top-known c.args.search.now c.args.waiting (top _ _ c.requires.is)

pub examine-requires-clause-short : goal.examine-requires-clause-short
examine-requires-clause-short c = ap (list_all has_short_constant) c.as_slice.ensures ∙ top-short c.args.search.now c.args.waiting (top _ _ c.requires.is)

pub examine-requires-clause-few : goal.examine-requires-clause-few
examine-requires-clause-few c = c.requires.is.small

pub close_by_literal-requires-clause-is : goal.close_by_literal-requires-clause-is
close_by_literal-requires-clause-is c = moved c.args.search.now _ _ refl c.requires.is

pub close_by_literal-requires-clause-is_false : goal.close_by_literal-requires-clause-is_false
close_by_literal-requires-clause-is_false c = told c.args.search.now.end _ c.args.waiting.lits _ _ c.as_slice.ensures c.in-False.is c.in_ok-examined.ensures.tells

pub returns-in_ok-close_by_literal-in-False : goal.returns-in_ok-close_by_literal-in-False
returns-in_ok-close_by_literal-in-False c = let mid = record c.args.search.now { is_first = false } in closes-goes c.args.search.now _ c.args.waiting (closes-after c.args.search.now mid _ (same-first c.args.search.now mid refl) refl refl c.in_ok-close_by_literal-in-False.ensures)

pub close_by_bounds-requires-clause-is : goal.close_by_bounds-requires-clause-is
close_by_bounds-requires-clause-is c = moved c.args.search.now _ _ refl c.requires.is

pub close_by_bounds-requires-clause-conflict : goal.close_by_bounds-requires-clause-conflict
close_by_bounds-requires-clause-conflict c =
    let q = c.args.search.now.end in
    subst (λ (ms : List ℤ). IsConflict (node_table q c.args.waiting.lits) ms) (sym c.as_slice-in-Conflict.ensures.value) (told q _ c.args.waiting.lits _ _ c.as_slice.ensures c.in-Conflict.is c.in_ok-examined.ensures.tells)

pub close_by_bounds-requires-clause-few : goal.close_by_bounds-requires-clause-few
close_by_bounds-requires-clause-few c = told-few c.args.search.now.end _ c.args.waiting.lits _ _ c.as_slice.ensures c.in-Conflict.is refl c.in_ok-examined.ensures.small

pub returns-in_ok-close_by_bounds-in-Conflict : goal.returns-in_ok-close_by_bounds-in-Conflict
returns-in_ok-close_by_bounds-in-Conflict c = let mid = record c.args.search.now { is_first = false } in closes-goes c.args.search.now _ c.args.waiting (closes-after c.args.search.now mid _ (same-first c.args.search.now mid refl) refl refl c.in_ok-close_by_bounds-in-Conflict.ensures)

pub meet-requires-clause-is : goal.meet-requires-clause-is
meet-requires-clause-is c = moved c.args.search.now _ _ refl c.requires.is

pub meet-requires-clause-solution : goal.meet-requires-clause-solution
meet-requires-clause-solution c = (told c.args.search.now.end _ c.args.waiting.lits _ _ c.as_slice.ensures c.in-Model.is c.in_ok-examined.ensures.tells).0

pub meet-requires-clause-each : goal.meet-requires-clause-each
meet-requires-clause-each c = (told c.args.search.now.end _ c.args.waiting.lits _ _ c.as_slice.ensures c.in-Model.is c.in_ok-examined.ensures.tells).1

pub meet-requires-clause-short : goal.meet-requires-clause-short
meet-requires-clause-short c = (told c.args.search.now.end _ c.args.waiting.lits _ _ c.as_slice.ensures c.in-Model.is c.in_ok-examined.ensures.tells).2

pub meet-requires-clause-holds : goal.meet-requires-clause-holds
meet-requires-clause-holds c = (told c.args.search.now.end _ c.args.waiting.lits _ _ c.as_slice.ensures c.in-Model.is c.in_ok-examined.ensures.tells).3

pub meet-requires-clause-few : goal.meet-requires-clause-few
meet-requires-clause-few c = told-few c.args.search.now.end _ c.args.waiting.lits _ _ c.as_slice.ensures c.in-Model.is refl c.in_ok-examined.ensures.small

pub returns-in-Model : goal.returns-in-Model
returns-in-Model c = let mid = record c.args.search.now { is_first = false } in turns-after c.args.search.now mid _ c.args.waiting _ (same-first c.args.search.now mid refl) refl refl c.meet.ensures

pub near-requires-clause-is : goal.near-requires-clause-is
near-requires-clause-is c = moved c.args.search.now _ _ refl c.requires.is

pub near-requires-clause-solution : goal.near-requires-clause-solution
near-requires-clause-solution c = (told c.args.search.now.end _ c.args.waiting.lits _ _ c.as_slice.ensures c.in-Fraction.is c.in_ok-examined.ensures.tells).0

pub near-requires-clause-vertex : goal.near-requires-clause-vertex
near-requires-clause-vertex c =
    let fits : FitsSigned w64 c.in-Fraction.floor = search rules in
    simp to_z-of_z (told c.args.search.now.end _ c.args.waiting.lits _ _ c.as_slice.ensures c.in-Fraction.is c.in_ok-examined.ensures.tells).1

pub near-requires-clause-few : goal.near-requires-clause-few
near-requires-clause-few c = told-few c.args.search.now.end _ c.args.waiting.lits _ _ c.as_slice.ensures c.in-Fraction.is refl c.in_ok-examined.ensures.small

pub returns-in-Fraction : goal.returns-in-Fraction
returns-in-Fraction c = let mid = record c.args.search.now { is_first = false } in turns-after c.args.search.now mid _ c.args.waiting _ (same-first c.args.search.now mid refl) refl refl c.near.ensures

pub give_up-requires-clause-is : goal.give_up-requires-clause-is
give_up-requires-clause-is c = moved c.args.search.now _ _ refl c.requires.is

pub give_up-requires-clause-evidence : goal.give_up-requires-clause-evidence
give_up-requires-clause-evidence c = (told c.args.search.now.end _ c.args.waiting.lits _ _ c.as_slice.ensures c.in-Wide.is c.in_ok-examined.ensures.tells).0

pub give_up-requires-clause-of_node : goal.give_up-requires-clause-of_node
give_up-requires-clause-of_node c = (told c.args.search.now.end _ c.args.waiting.lits _ _ c.as_slice.ensures c.in-Wide.is c.in_ok-examined.ensures.tells).1

pub returns-in-Wide : goal.returns-in-Wide
returns-in-Wide c = let mid = record c.args.search.now { is_first = false } in turns-after c.args.search.now mid c.give_up.new.self c.args.waiting (Ok c.give_up.result) (same-first c.args.search.now mid refl) refl refl c.give_up.ensures
