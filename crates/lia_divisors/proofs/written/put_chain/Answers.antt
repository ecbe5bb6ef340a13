use Rattle.std.proofs.Common.{ap, ◌∙◌}
use Rattle.lia_divisors.specs.machinery.Plain.{is_plain}
use Rattle.lia_divisors.proofs.PlainLemmas.{plain-chained}
use Rattle.lia_divisors.proofs.written.put_chain.Goals as goal

pub put_tree-requires-clause-plain : goal.put_tree-requires-clause-plain
put_tree-requires-clause-plain c = ap is_plain c.in_ok-made.ensures ∙ plain-chained c.args.chain.roundings.items c.args.chain.multipliers.items
