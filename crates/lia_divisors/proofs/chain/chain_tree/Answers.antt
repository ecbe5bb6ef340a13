use Rattle.std.proofs.Common.{ap, sym, ◌∙◌}
use Rattle.refutation_trees.specs.declared.tree.Refutation.{Refutation}
use Rattle.lia_divisors.specs.machinery.Chain.{chained}
use Rattle.lia_divisors.proofs.ThereLemmas.{chained-push}
use Rattle.lia_divisors.proofs.chain.chain_tree.Goals as goal

pub under-preserved : goal.under-preserved
under-preserved c =
    ap (λ (t : Refutation). chained c.pop.new.self.items t) c.in_ok-tree.ensures
    ∙ sym (chained-push c.pop.new.self.items c.under.roundings.items c.in-Some.rounding c.under.tree c.in-Some.ensures.items)
    ∙ c.under.invariant
