use Rattle.std.proofs.Common.{arith}
use Rattle.book_answers.proofs.TextLemmas.{no_low_false}
use Rattle.book_answers.proofs.texts.level_holds.Goals as goal

pub returns : goal.returns
returns c = no_low_false c.args.checked.now c.args.book.now c.requires.of (λ h low derived. c.level-level.ensures.no_false h (omega (arith, low, c.level-level.ensures.is)) derived)
