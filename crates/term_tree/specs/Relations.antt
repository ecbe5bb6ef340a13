-- The relations that chained operators speak of.
use Rattle.std.specs.Prelude.{Bool, false}
use Rattle.term_tree.specs.declared.node.OpKind.{OpKind}
use Rattle.term_tree.specs.declared.node.OpKind.TheVariants.{Eq, Le, Lt, Ge, Gt}
use Rattle.term_tree.specs.declared.scalar.Value.{Value}
use Rattle.term_tree.specs.Operators.{same_value, at_most, is_smaller}

-- whether two neighbours stand in the operator's relation
abbrev pub relation_of : OpKind → Value → Value → Bool
relation_of Eq x y = same_value x y
relation_of Le x y = at_most x y
relation_of Lt x y = is_smaller x y
relation_of Ge x y = at_most y x
relation_of Gt x y = is_smaller y x
relation_of _ x y = false
