use Rattle.std.proofs.Common.{◌≡◌, ◌∙◌, ◌<◌, ap, List, ℕ, arith, length, drop, ◌-◌}
use Rattle.std.specs.Prelude.{Option, ℤ}
use Rattle.lia_node.specs.machinery.Columns.{is_said_below}
use Rattle.lia_node.proofs.ColumnLemmas.{all-at}
use Rattle.lia_node.proofs.MeetLemmas.{length-bounds}
use Rattle.lia_node.proofs.columns.of_variables.Goals as goal

pub meet-requires-clause-below : goal.meet-requires-clause-below
meet-requires-clause-below c =
    let bs = c.args.bounds.now in
    let n = c.args.variables in
    let some = c.each-test.true in
    let within = c.each.invariant.within in
    let less : c.each.at - 1 < length bs = omega (arith, some, within) in
    let long : length c.as_mut_slice.result.now ≡ n =
    ap (λ (l : List (Option ℤ × Option ℤ)). length l) (c.as_mut_slice.ensures.value ∙ c.each.invariant.is) ∙ length-bounds (drop c.each.at bs) n in
    ap (λ (k : ℕ). is_said_below k c.index-bounds-at.result) long ∙ ap (is_said_below n) c.index-bounds-at.is ∙ all-at (is_said_below n) bs (c.each.at - 1) _ less c.requires.below
