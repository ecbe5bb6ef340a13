use Rattle.std.proofs.Common.{◌∙◌}
use Rattle.term_tree.proofs.OperatorLemmas.{implied_early}
use Rattle.term_tree.proofs.logic.is_implied.Goals as goal

pub returns-then-not-holds : goal.returns-then-not-holds
returns-then-not-holds c =
    let a = c.loop-i-test.true in
    let b = c.if-i-values.false in
    let d = c.truth-holds.ensures in
    let e = c.if-not-holds.true in
    let f = c.if-not-holds.ensures in
    implied_early c.args.values.now c.loop-i.i _ c.truth-holds.result a b d (cc) ∙ c.loop-i.invariant
