use Rattle.std.proofs.Common.{rules, ap, ◌∙◌}
use Rattle.lin_atoms.specs.Algebra.{negated_terms}
use Rattle.lin_atoms.specs.Linear.{are_ordered, are_short}
use Rattle.lin_atoms.proofs.LinearLemmas.{are_ordered-negated, are_short-negated}
use Rattle.lin_atoms.proofs.lin.Lin.negated.Goals as goal

pub invariant_of-result : goal.invariant_of-result
invariant_of-result c =
    let made = c.in_ok-negated.ensures ∙ ap negated_terms c.as_slice.ensures in
    (ap (are_ordered 0) made ∙ are_ordered-negated 0 c.self.inside.terms ∙ c.self.invariant.0, ap are_short made ∙ are_short-negated c.self.inside.terms ∙ c.self.invariant.1, search rules)
