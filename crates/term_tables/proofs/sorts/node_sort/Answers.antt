use Rattle.std.proofs.Common.{List, map, ap, sym, ◌∙◌}
use Rattle.std.specs.Prelude.{slice_get, None, if◌then◌else◌}
use Rattle.std.specs.List.{list_all}
use Rattle.term_tree.specs.declared.node.TermId.{TermId}
use Rattle.term_tree.specs.declared.node.Node.{Node}
use Rattle.term_tree.specs.Sorts.{is_sorted, node_sort, operation_sort, predicate_sort}
use Rattle.term_tables.specs.machinery.Table.{sort_in}
use Rattle.term_tables.proofs.sorts.node_sort.Goals as goal

pub returns-in-Pred : goal.returns-in-Pred
returns-in-Pred c =
    c.predicate_sort.ensures
    ∙ ap (λ (args : List TermId). predicate_sort (slice_get c.args.preds.now c.in-Pred.pred) (map (λ (arg : TermId). sort_in c.args.known.now arg.0) args)) c.as_slice.ensures
    ∙ ap (λ (node : Node). node_sort c.args.preds.now (sort_in c.args.known.now) node) (sym c.in-Pred.is)

pub returns-in-Op : goal.returns-in-Op
returns-in-Op c =
    c.operation_sort.ensures ∙ ap (λ (args : List TermId). operation_sort c.in-Op.op (map (λ (arg : TermId). sort_in c.args.known.now arg.0) args)) c.as_slice-in-Op.ensures
    ∙ ap (λ (node : Node). node_sort c.args.preds.now (sort_in c.args.known.now) node) (sym c.in-Op.is)

pub returns-in-Let : goal.returns-in-Let
returns-in-Let c =
    c.let_sort.ensures
    ∙ ap (λ (ids : List TermId). if list_all is_sorted (map (λ (b : TermId). sort_in c.args.known.now b.0) ids) then sort_in c.args.known.now c.in-Let.body.0 else None) c.as_slice-in-Let.ensures
    ∙ ap (λ (node : Node). node_sort c.args.preds.now (sort_in c.args.known.now) node) (sym c.in-Let.is)
