-- What is told of a book where memory is wanted.
use Rattle.std.specs.Prelude.{ℕ, List, ◌++◌, codes, Some, None}
use Rattle.std.specs.declared.option.Option.{Option}
use Rattle.chc_core.specs.Contents.{Contents}
use Rattle.answer_text.specs.declared.answer.UnknownCause.TheVariants.{NoMemory}
use Rattle.answer_text.specs.Lines.{level_text, memory_text}

-- the closed level, if there is a book
abbrev pub wanting_text : Option Contents → List ℕ
wanting_text None = memory_text
wanting_text (Some b) = codes "unknown\n" ++ level_text b.level NoMemory
