use Rattle.std.proofs.Common.{ap, sym, ◌∙◌, arith, length}
use Rattle.std.specs.List.{range_with_len}
use Rattle.std.specs.Prelude.{find}
use Rattle.simplex_core.specs.Run.{leaving, may_leave, moment}
use Rattle.simplex_core.proofs.RangeLemmas.{sought-all, sought-here, sought-more, sought-none}
use Rattle.simplex_core.proofs.bland.leaving.Goals as goal

pub loop-column-init : goal.loop-column-init
unfolding leaving
loop-column-init c =
    let test = may_leave (moment c.args.t.now c.args.standings.now) in
    ap (λ n. find test (range_with_len 0 n)) (sym c.requires.each) ∙ sym (sought-all test (length c.args.standings.now))

pub loop-column-preserved : goal.loop-column-preserved
loop-column-preserved c =
    let test = may_leave (moment c.args.t.now c.args.standings.now) in
    c.loop-column.invariant ∙ sought-more test c.loop-column.column (length c.args.standings.now) (omega arith) (sym c.may_leave.ensures ∙ c.if-may_leave.false)

pub returns-then-may_leave : goal.returns-then-may_leave
returns-then-may_leave c =
    let test = may_leave (moment c.args.t.now c.args.standings.now) in
    sym (c.loop-column.invariant ∙ sought-here test c.loop-column.column (length c.args.standings.now) (omega arith) (sym c.may_leave.ensures ∙ c.if-may_leave.true))

pub returns : goal.returns
returns c =
    let test = may_leave (moment c.args.t.now c.args.standings.now) in
    sym (c.loop-column.invariant ∙ sought-none test c.loop-column.column (length c.args.standings.now) (omega arith))
