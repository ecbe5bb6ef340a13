use Rattle.std.proofs.Common.{◌≡◌, ◌++◌, take}
use Rattle.std.specs.List.{flat_map}
use Rattle.answer_text.specs.AnswerTexts.{definition_text}
use Rattle.answer_text.proofs.write.push_definitions.Given as goal

abbrev pub invariant-loop-definition : goal.invariant-loop-definition
invariant-loop-definition l = l.out.items ≡ l.fn.out.items ++ flat_map (definition_text l.preds) (take l.definition-index l.definitions)
