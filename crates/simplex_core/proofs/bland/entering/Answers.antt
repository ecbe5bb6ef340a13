use Rattle.std.proofs.Common.{ap, sym, ◌∙◌, arith, length}
use Rattle.std.specs.List.{range_with_len}
use Rattle.std.specs.Prelude.{find}
use Rattle.simplex_core.specs.Run.{entering, may_enter, moment}
use Rattle.simplex_core.proofs.RangeLemmas.{sought-all, sought-here, sought-more, sought-none}
use Rattle.simplex_core.proofs.bland.entering.Goals as goal

pub loop-column-init : goal.loop-column-init
unfolding entering
loop-column-init c =
    let test = may_enter (moment c.args.t.now c.args.standings.now) c.args.row c.args.side in
    ap (λ n. find test (range_with_len 0 n)) (sym c.requires.each) ∙ sym (sought-all test (length c.args.standings.now))

pub loop-column-preserved : goal.loop-column-preserved
loop-column-preserved c =
    let test = may_enter (moment c.args.t.now c.args.standings.now) c.args.row c.args.side in
    c.loop-column.invariant ∙ sought-more test c.loop-column.column (length c.args.standings.now) (omega arith) (sym c.may_enter.ensures ∙ c.if-may_enter.false)

pub returns-then-may_enter : goal.returns-then-may_enter
returns-then-may_enter c =
    let test = may_enter (moment c.args.t.now c.args.standings.now) c.args.row c.args.side in
    sym (c.loop-column.invariant ∙ sought-here test c.loop-column.column (length c.args.standings.now) (omega arith) (sym c.may_enter.ensures ∙ c.if-may_enter.true))

pub returns : goal.returns
returns c =
    let test = may_enter (moment c.args.t.now c.args.standings.now) c.args.row c.args.side in
    sym (c.loop-column.invariant ∙ sought-none test c.loop-column.column (length c.args.standings.now) (omega arith))
