use Rattle.std.proofs.Common.{List, map, ap, sym, ◌∙◌}
use Rattle.term_tree.specs.declared.node.TermId.{TermId}
use Rattle.term_tree.specs.declared.node.Node.{Node}
use Rattle.term_tree.specs.Constants.{all_constant}
use Rattle.term_tables.specs.machinery.Table.{constant_in, short_constant, short_operation}
use Rattle.term_tables.proofs.constants.node_constant.Goals as goal

pub returns-in_ok-constant-in-Op : goal.returns-in_ok-constant-in-Op
returns-in_ok-constant-in-Op c =
    c.in_ok-constant-in-Op.ensures ∙ ap (λ (args : List TermId). short_operation c.in-Op.op (all_constant (map (λ (arg : TermId). constant_in c.args.known.now arg.0) args))) c.as_slice.ensures
    ∙ ap (λ (node : Node). short_constant (constant_in c.args.known.now) node) (sym c.in-Op.is)
