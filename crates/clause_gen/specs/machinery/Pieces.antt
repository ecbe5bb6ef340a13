-- Nodes of the script, with their parts by number.
use Rattle.std.specs.Prelude.{[], ◌∷◌}
use Rattle.term_tree.specs.declared.node.Node.{Node}
use Rattle.term_tree.specs.declared.node.Node.TheVariants.{Num, Var, Op}
use Rattle.term_tree.specs.declared.sort.Sort.TheVariants.{Int}
use Rattle.clause_gen.specs.declared.piece.Piece.{Piece}
use Rattle.clause_gen.specs.declared.piece.Piece.TheVariants.{Num as Number, Var as Variable, One, Two, Three, Applied, ForAll}
use Rattle.clause_gen.specs.Generated.{for_all_d_i, ids, node_at}

abbrev pub node_of : Piece → Node
node_of (Number number) = Num number
node_of (Variable binder) = Var binder Int
node_of (One op only) = Op op (ids (only ∷ []))
node_of (Two op left right) = Op op (ids (left ∷ right ∷ []))
node_of (Three op first second third) = Op op (ids (first ∷ second ∷ third ∷ []))
node_of (Applied depth number) = node_at (depth ∷ number ∷ [])
node_of (ForAll body) = for_all_d_i body
