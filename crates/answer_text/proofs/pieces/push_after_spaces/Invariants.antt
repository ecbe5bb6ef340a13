use Rattle.std.proofs.Common.{◌≡◌, ◌++◌, take}
use Rattle.answer_text.specs.Names.{value_text, after_spaces}
use Rattle.answer_text.proofs.pieces.push_after_spaces.Given as goal

abbrev pub invariant-loop-value : goal.invariant-loop-value
invariant-loop-value l = l.out.items ≡ l.fn.out.items ++ after_spaces value_text (take l.value-index l.values)
