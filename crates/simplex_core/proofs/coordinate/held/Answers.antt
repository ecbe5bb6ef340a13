use Rattle.std.proofs.Common.{◌≡◌, ap, ◌∙◌, arith, length, filter, cond, [], ◌∷◌, ◌++◌}
use Rattle.std.specs.List.{range_with_len}
use Rattle.simplex_core.specs.Coordinate.{is_held}
use Rattle.simplex_core.proofs.RangeLemmas.{kept}
use Rattle.simplex_core.proofs.coordinate.held.Goals as goal

pub loop-column-preserved : goal.loop-column-preserved
loop-column-preserved c =
    let column = c.loop-column.column in
    let made = c.loop-column.made.items in
    kept (is_held c.args.values.now) column made c.push_place.new.made.items c.loop-column.invariant (c.in_ok-push_place.ensures ∙ ap (λ b. made ++ cond b (column ∷ []) []) c.is_held.ensures)

pub returns : goal.returns
returns c =
    let last : c.loop-column.column ≡ length c.args.values.now = omega arith in
    c.loop-column.invariant ∙ ap (λ n. filter (is_held c.args.values.now) (range_with_len 0 n)) last
