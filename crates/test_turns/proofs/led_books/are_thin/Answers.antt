use Rattle.std.proofs.Common.{arith}
use Rattle.test_turns.proofs.LedLemmas.{lemmas-thin}
use Rattle.test_turns.proofs.led_books.are_thin.Goals as goal

pub returns : goal.returns
returns c =
    let count = c.count-id-end.ensures in
    let past = c.loop-id-test.false in
    lemmas-thin c.args.frames.now.lemmas (λ k less. c.loop-id.invariant k (omega (arith, count, past, less)))
