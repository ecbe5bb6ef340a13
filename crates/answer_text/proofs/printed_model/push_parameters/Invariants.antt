use Rattle.std.proofs.Common.{◌≡◌, ◌+◌, ◌++◌, drop}
use Rattle.std.specs.List.{enumerate_from}
use Rattle.answer_text.specs.Names.{after_spaces}
use Rattle.answer_text.specs.AnswerTexts.{parameter_text, parameters_text}
use Rattle.answer_text.proofs.printed_model.push_parameters.Given as goal

-- what is written, and what is to come
abbrev pub invariant-loop-i : goal.invariant-loop-i
invariant-loop-i l = l.out.items ++ after_spaces parameter_text (enumerate_from (l.i + 1) (drop l.i l.rest)) ≡ l.fn.out.items ++ parameters_text l.sorts
