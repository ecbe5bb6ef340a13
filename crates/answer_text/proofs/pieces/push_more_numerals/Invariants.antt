use Rattle.std.proofs.Common.{◌≡◌, ◌++◌, take, decimal}
use Rattle.answer_text.specs.Names.{after_spaces}
use Rattle.answer_text.proofs.pieces.push_more_numerals.Given as goal

abbrev pub invariant-loop-number : goal.invariant-loop-number
invariant-loop-number l = l.out.items ≡ l.fn.out.items ++ after_spaces decimal (take l.number-index l.numbers)
