use Rattle.std.proofs.Common.{ap, sym, ◌∙◌, arith}
use Rattle.std.specs.List.{range_with_len}
use Rattle.std.specs.Prelude.{find}
use Rattle.simplex_core.specs.Run.{are_crossed_at, crossed}
use Rattle.simplex_core.proofs.RangeLemmas.{sought-all, sought-here, sought-more, sought-none}
use Rattle.simplex_core.proofs.bland.crossed.Goals as goal

pub loop-column-init : goal.loop-column-init
unfolding crossed
loop-column-init c = ap (λ n. find (are_crossed_at c.args.t.now) (range_with_len 0 n)) (sym c.requires) ∙ sym (sought-all (are_crossed_at c.args.t.now) c.args.columns)

pub loop-column-preserved : goal.loop-column-preserved
loop-column-preserved c =
    c.loop-column.invariant ∙ sought-more (are_crossed_at c.args.t.now) c.loop-column.column c.args.columns (omega arith) (sym c.are_crossed_at.ensures ∙ c.if-are_crossed_at.false)

pub returns-then-are_crossed_at : goal.returns-then-are_crossed_at
returns-then-are_crossed_at c =
    sym (c.loop-column.invariant ∙ sought-here (are_crossed_at c.args.t.now) c.loop-column.column c.args.columns (omega arith) (sym c.are_crossed_at.ensures ∙ c.if-are_crossed_at.true))

pub returns : goal.returns
returns c = sym (c.loop-column.invariant ∙ sought-none (are_crossed_at c.args.t.now) c.loop-column.column c.args.columns (omega arith))
