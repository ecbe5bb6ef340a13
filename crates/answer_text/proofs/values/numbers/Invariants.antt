use Rattle.std.proofs.Common.{◌≡◌, [], drop}
use Rattle.answer_text.specs.Reading.{read_each, read_numeral}
use Rattle.answer_text.proofs.values.numbers.Given as goal

abbrev pub invariant-loop-tree : goal.invariant-loop-tree
invariant-loop-tree l = read_each (read_numeral l.text) l.numbers.items (drop l.tree-index l.trees) ≡ read_each (read_numeral l.text) [] l.trees
