use Rattle.std.proofs.Common.{ℕ, List, [], ◌∷◌, ◌++◌, map, Bool, ap, sym, ◌∙◌, append_assoc}
use Rattle.std.specs.Prelude.{Option, Some, if◌then◌else◌}
use Rattle.term_tree.specs.declared.node.TermId.{TermId}
use Rattle.term_tree.specs.declared.node.Node.{Node}
use Rattle.term_tree.specs.declared.sort.Sort.{Sort}
use Rattle.linear_terms.specs.declared.standing.Standing.TheVariants.{Plain, Bit}
use Rattle.linear_terms.specs.Text.{inner_spots, needs_one, spot_as}
use Rattle.term_tables.specs.machinery.Table.{sort_in}
use Rattle.term_places.specs.machinery.Placed.{all_placed}
use Rattle.term_places.proofs.PlacedLemmas.{placed_at, put_last}
use Rattle.term_places.proofs.walk.+place.Goals as goal

pub put_places-returns : goal.put_places-returns
put_places-returns t c =
    let sorts = sort_in c.args.sorts.now in
    let nodes = c.args.terms.now.nodes in
    let node = c.node-node.result.now in
    let out : List ℕ = c.args.out.now.items in
    let own : List ℕ = if c.needs_one.result then c.args.spot.id ∷ [] else [] in
    let all : List ℕ = all_placed sorts nodes (inner_spots sorts node) in
    let needed = c.needs_one.ensures ∙ ap (λ (s : Option Sort). needs_one c.args.spot.standing s (Some node)) c.sort.ensures.sort in
    c.in_ok-put_parts.ensures ∙ ap (λ (ns : List ℕ). ns ++ all) c.in_ok-put_if.ensures ∙ append_assoc out own all
    ∙ ap (λ (ns : List ℕ). out ++ ns)
    (ap (λ (b : Bool). (if b then c.args.spot.id ∷ [] else []) ++ all) needed ∙ sym (placed_at sorts nodes node c.args.spot c.node-node.ensures.is c.node-node.ensures.below))

pub put_parts-returns-in_ok-put_one-in-Let : goal.put_parts-returns-in_ok-put_one-in-Let
put_parts-returns-in_ok-put_one-in-Let t c =
    let sorts = sort_in c.args.sorts.now in
    let nodes = c.args.terms.now.nodes in
    let out : List ℕ = c.args.out.now.items in
    let bound = c.in_ok-put_all-in-Let.ensures ∙ ap (λ (ids : List TermId). out ++ all_placed sorts nodes (map (spot_as Bit) ids)) c.as_slice-in-Let.ensures in
    put_last sorts nodes out c.put_all-in-Let.new.out.items c.put_one-in-Let.new.out.items (map (spot_as Bit) c.in-Let.bound) (spot_as Plain c.in-Let.body) bound c.in_ok-put_one-in-Let.ensures
    ∙ ap (λ (node : Node). out ++ all_placed sorts nodes (inner_spots sorts node)) (sym c.in-Let.is)
