use Rattle.std.proofs.Common.{◌≡◌, ◌++◌, take}
use Rattle.answer_text.specs.Names.{after_spaces, value_text}
use Rattle.check_input.proofs.pieces.push_after_spaces.Given as goal

-- those so far
abbrev pub invariant-loop-value : goal.invariant-loop-value
invariant-loop-value l = l.out.items ≡ l.fn.out.items ++ after_spaces value_text (take l.value-index l.values)
