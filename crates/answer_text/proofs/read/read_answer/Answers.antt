use Rattle.std.proofs.Common.{arith}
use Rattle.term_check.proofs.Public.{reading_weighs}
use Rattle.answer_text.proofs.read.read_answer.Goals as goal

pub reply-requires-clause-weight : goal.reply-requires-clause-weight
reply-requires-clause-weight c =
    let w = reading_weighs c.args.text.now c.in_ok-read.read.trees c.in_ok-read.read.stop c.in_ok-read.ensures in
    omega (arith, w, c.requires.short)
