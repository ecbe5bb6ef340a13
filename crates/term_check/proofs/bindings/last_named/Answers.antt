use Rattle.std.proofs.Common.{sym, ◌∙◌, arith}
use Rattle.term_check.proofs.FewLemmas.{last_found, last_other}
use Rattle.term_check.proofs.bindings.last_named.Goals as goal

pub returns-then-are_same : goal.returns-then-are_same
returns-then-are_same c = last_found c.args.name.now c.args.few.now c.loop-i.i _ c.loop-i-test.true c.loop-i.invariant.1 c.loop-i.invariant.0 (sym c.are_same.ensures ∙ c.if-are_same.true)

pub loop-i-preserved : goal.loop-i-preserved
loop-i-preserved c =
    (last_other c.args.name.now c.args.few.now c.loop-i.i _ c.loop-i-test.true c.loop-i.invariant.1 c.loop-i.invariant.0 (sym c.are_same.ensures ∙ c.if-are_same.false), omega (arith, c.loop-i.invariant.1))
