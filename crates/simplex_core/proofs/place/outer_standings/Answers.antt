use Rattle.std.proofs.Common.{◌≡◌, ap, ◌∙◌, arith, map}
use Rattle.std.specs.List.{range_with_len}
use Rattle.simplex_core.specs.machinery.Filled.{outer_standing_at}
use Rattle.simplex_core.specs.Run.{first_standing}
use Rattle.simplex_core.proofs.RangeLemmas.{made-more}
use Rattle.simplex_core.proofs.place.outer_standings.Goals as goal

pub loop-column-preserved : goal.loop-column-preserved
loop-column-preserved c =
    c.in_ok-push.ensures.items ∙ made-more (outer_standing_at c.args.t.now) c.loop-column.column c.loop-column.made.items c.first_standing.result c.loop-column.invariant (c.first_standing.ensures ∙ ap (λ l. first_standing l c.upper.result) c.lower.ensures ∙ ap (first_standing _) c.upper.ensures)

pub returns : goal.returns
returns c =
    let last : c.loop-column.column ≡ c.args.columns = omega arith in
    c.loop-column.invariant ∙ ap (λ n. map (outer_standing_at c.args.t.now) (range_with_len 0 n)) last
