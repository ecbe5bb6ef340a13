use Rattle.std.proofs.Common.{ap, ◌∙◌, arith}
use Rattle.int_rows.specs.Node.{quotients}
use Rattle.lia_close.proofs.MadeLemmas.{next-end}
use Rattle.lia_close.proofs.taking.all_ready.Goals as goal

pub overflow_add-quotient : goal.overflow_add-quotient
overflow_add-quotient c =
    let next = next-end c.loop-lit.quotient c.loop-lit.lit-index c.args.lits.now c.lit-item.result c.quotients.result c.loop-lit-test.true (c.quotients.ensures.is ∙ ap quotients c.lit-item.is) in
    omega (arith, next, c.loop-lit.invariant.ends, c.requires.few)
