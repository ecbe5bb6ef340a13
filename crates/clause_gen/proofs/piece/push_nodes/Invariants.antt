use Rattle.std.proofs.Common.{◌≡◌, ◌++◌, map, take}
use Rattle.clause_gen.specs.machinery.Pieces.{node_of}
use Rattle.clause_gen.proofs.piece.push_nodes.Given as goal

abbrev pub invariant-loop-piece : goal.invariant-loop-piece
invariant-loop-piece l = l.nodes.items ≡ l.fn.nodes.items ++ map node_of (take l.piece-index l.pieces)
