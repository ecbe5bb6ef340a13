use Rattle.std.proofs.Common.{◌≡◌, ◌<◌, ap, ◌∙◌, List, length, ℕ, Option, refl, subst, sym, rules, FitsSigned}
use Rattle.std.specs.Int.{w64}
use Rattle.std.specs.List.{list_all}
use Rattle.std.specs.Option.{IfSome}
use Rattle.std.proofs.lemmas.Int.{to_z-of_z}
use Rattle.lin_atoms.specs.declared.lit.Lit.{Lit}
use Rattle.int_rows.specs.Node.{system}
use Rattle.refutation_trees.specs.Split.{HasSolution, HasVertexBetween}
use Rattle.refutation_trees.specs.declared.tree.Refutation.{Refutation}
use Rattle.lia_node.specs.Known.{are_known, has_short_constant}
use Rattle.lia_close.specs.Placed.{IsSoundAt, Place}
use Rattle.lia_close.specs.Said.{AreReasons}
use Rattle.lia_stack.specs.declared.state.Search.{Search}
use Rattle.lia_stack.proofs.Public.{closed-bounds, closes-named, named-keeps, splits-named, top, top-known, top-short}
use Rattle.lia_search.proofs.RunLemmas.{closes-goes}
use Rattle.lia_search.proofs.running.branch.Goals as goal

pub close_by_parts-requires-clause-known : goal.close_by_parts-requires-clause-known
close_by_parts-requires-clause-known c = ap (are_known c.name.new.self.end) c.as_slice.ensures ∙ top-known c.name.new.self c.name.new.waiting (top _ _ c.in_ok-name.ensures.is)

pub close_by_parts-requires-clause-short : goal.close_by_parts-requires-clause-short
close_by_parts-requires-clause-short c = ap (list_all has_short_constant) c.as_slice.ensures ∙ top-short c.name.new.self c.name.new.waiting (top _ _ c.in_ok-name.ensures.is)

pub close_by_parts-requires-clause-few : goal.close_by_parts-requires-clause-few
close_by_parts-requires-clause-few c = (top _ _ c.in_ok-name.ensures.is).small

pub close_by_parts-requires-clause-each : goal.close_by_parts-requires-clause-each
close_by_parts-requires-clause-each c = ap (λ (ns : List ℕ). length ns) c.as_slice-2.ensures ∙ c.in_ok-name.ensures.full ∙ sym (ap (λ (lits : List Lit). length lits) c.as_slice.ensures)

pub returns-in-Some : goal.returns-in-Some
returns-in-Some c =
    let n = c.in_ok-name.ensures in
    let s = c.name.new.self in
    let after = c.name.new.waiting in
    let sound =
    subst (λ (o : Option Refutation). IfSome o (λ tree. (place : Place) → length place.known ≡ after.known → AreReasons place.known s.end c.as_slice.result.now c.as_slice-2.result.now → IsSoundAt s.end place tree)) c.in-Some.is c.in_ok-found.ensures in
    closes-goes c.args.search.now _ c.args.waiting
    (closes-named c.args.search.now s _ c.args.waiting after n
    (closed-bounds s _ after c.as_slice.result.now c.as_slice-2.result.now c.in-Some.tree (top _ _ n.is) n.full c.as_slice.ensures c.as_slice-2.ensures sound refl c.in_ok-push.ensures.items))

pub split_sides-requires-clause-is : goal.split_sides-requires-clause-is
split_sides-requires-clause-is c = c.in_ok-name.ensures.is

pub split_sides-requires-clause-full : goal.split_sides-requires-clause-full
split_sides-requires-clause-full c = c.in_ok-name.ensures.full

pub split_sides-requires-clause-solution : goal.split_sides-requires-clause-solution
split_sides-requires-clause-solution c = named-keeps (λ q lits. HasSolution q lits) c.args.search.now c.name.new.self c.args.waiting c.name.new.waiting c.in_ok-name.ensures c.requires.solution

pub split_sides-requires-clause-vertex : goal.split_sides-requires-clause-vertex
split_sides-requires-clause-vertex c =
    let fits = c.ranges.floor.sfits in
    let has_room : FitsSigned w64 c.args.floor = search rules in
    simp to_z-of_z (named-keeps (λ q lits. HasVertexBetween (system q lits) c.args.variable c.args.floor) c.args.search.now c.name.new.self c.args.waiting c.name.new.waiting c.in_ok-name.ensures c.requires.vertex)

pub split_sides-requires-clause-room : goal.split_sides-requires-clause-room
split_sides-requires-clause-room c = subst (λ (s : Search). s.count < s.nodes) (sym c.in_ok-name.ensures.steps) c.requires.room

pub returns : goal.returns
returns c = splits-named c.args.search.now c.name.new.self _ c.args.waiting c.name.new.waiting c.in_ok-name.ensures c.in_ok-split_sides.ensures
