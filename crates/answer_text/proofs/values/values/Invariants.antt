use Rattle.std.proofs.Common.{◌≡◌, [], drop}
use Rattle.answer_text.specs.Reading.{read_each, value}
use Rattle.answer_text.proofs.values.values.Given as goal

abbrev pub invariant-loop-tree : goal.invariant-loop-tree
invariant-loop-tree l = read_each (value l.text) l.values.items (drop l.tree-index l.trees) ≡ read_each (value l.text) [] l.trees
