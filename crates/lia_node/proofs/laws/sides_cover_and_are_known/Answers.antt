use Rattle.lia_node.proofs.BranchLemmas.{known-at-least, known-at-most, sides-cover}
use Rattle.lia_node.proofs.laws.sides_cover_and_are_known.Goals as goal

pub returns : goal.returns
returns c = record { cover = sides-cover; at_most = known-at-most; at_least = known-at-least }
