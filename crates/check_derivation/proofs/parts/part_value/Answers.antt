use Rattle.std.proofs.Common.{sym, ◌∙◌}
use Rattle.check_derivation.proofs.PartLemmas.{variable_value}
use Rattle.check_derivation.proofs.parts.part_value.Goals as goal

pub returns-in-Var-clause-is : goal.returns-in-Var-clause-is
returns-in-Var-clause-is c = c.variable.ensures ∙ sym (variable_value _ _ _ _ _ _ c.node.ensures.is c.node.ensures.below c.in-Var.is)
