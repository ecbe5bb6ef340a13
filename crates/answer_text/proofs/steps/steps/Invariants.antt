use Rattle.std.proofs.Common.{◌≡◌, [], drop}
use Rattle.answer_text.specs.Reading.{read_each, step}
use Rattle.answer_text.proofs.steps.steps.Given as goal

abbrev pub invariant-loop-tree : goal.invariant-loop-tree
invariant-loop-tree l = read_each (step l.text l.declared) l.lines.items (drop l.tree-index l.trees) ≡ read_each (step l.text l.declared) [] l.trees
