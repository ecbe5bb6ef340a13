use Rattle.std.proofs.Common.{arith}
use Rattle.test_turns.proofs.LedLemmas.{nodes-thin}
use Rattle.test_turns.proofs.led_books.have_thin.Goals as goal

pub returns : goal.returns
returns c =
    let count = c.count-id-end.ensures in
    let past = c.loop-id-test.false in
    nodes-thin c.args.tree.now.nodes (λ k less. c.loop-id.invariant k (omega (arith, count, past, less)))
