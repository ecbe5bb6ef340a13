use Rattle.lia_stack.proofs.StateLemmas.{tree-one, tree-sound}
use Rattle.lia_stack.proofs.state.Search.finished.Goals as goal

pub returns-in-Some : goal.returns-in-Some
returns-in-Some c = c.requires.is.kept c.in-Some.evidence c.in-Some.is

pub tree_of-requires : goal.tree_of-requires
tree_of-requires c = tree-one c.args.self c.requires.is c.requires.none c.in-None.is

pub returns : goal.returns
returns c = tree-sound c.args.self _ c.requires.is c.requires.none c.in-None.is c.in_ok-tree-in-None.ensures
