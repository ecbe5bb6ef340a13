use Rattle.std.proofs.Common.{◌≡◌, ◌++◌, take}
use Rattle.std.specs.List.{flat_map}
use Rattle.answer_text.specs.AnswerTexts.{step_text}
use Rattle.answer_text.proofs.write.push_steps.Given as goal

abbrev pub invariant-loop-line : goal.invariant-loop-line
invariant-loop-line l = l.out.items ≡ l.fn.out.items ++ flat_map (step_text l.preds) (take l.line-index l.lines)
