use Rattle.std.proofs.Common.{◌≡◌, true, sym}
use Rattle.term_tree.specs.declared.sort.Sort.TheVariants.{Bool as BoolSort}
use Rattle.term_tree.specs.Sorts.{same_sort}
use Rattle.term_check.proofs.ApplyLemmas.{quantifier_told}
use Rattle.term_check.proofs.apply.add_quantifier.Goals as goal

pub returns-clause-told : goal.returns-clause-told
returns-clause-told c =
    let bool : same_sort c.args.found.part.sort BoolSort ≡ true = sym c.if-not-same_sort.ensures in
    quantifier_told c.args.is_universal c.args.first c.args.sorts c.args.start c.args.found c.quantifier_node-node.result c.bool_part.result c.args.terms.now c.add_found.new.terms c.add_found.result
    bool c.quantifier_node-node.ensures c.bool_part.ensures c.add_found.ensures.keeps c.add_found.ensures.added
