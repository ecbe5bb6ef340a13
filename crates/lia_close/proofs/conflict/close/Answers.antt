use Rattle.std.proofs.Common.{◌∙◌, List, ℕ}
use Rattle.std.specs.Prelude.{ℤ}
use Rattle.lia_close.specs.declared.leaf.Rounding.{Rounding}
use Rattle.lia_close.proofs.CloseLemmas.{closed-by, each-of, taken-of}
use Rattle.lia_close.proofs.conflict.close.Goals as goal

pub all_taken-requires-clause-each : goal.all_taken-requires-clause-each
all_taken-requires-clause-each c = each-of c.args.end c.args.lits.now c.args.multipliers.now c.variables-variables.result c.as_slice.result.now c.requires.conflict (c.as_slice.ensures.value ∙ c.in_ok-readied.ensures.is) c.variables-variables.ensures

pub leaf_of-requires-clause-there : goal.leaf_of-requires-clause-there
leaf_of-requires-clause-there c =
    taken-of c.args.end c.args.lits.now c.args.multipliers.now c.variables-variables.result c.as_slice.result.now c.as_slice-2.result.now c.requires.conflict c.are_short.ensures (c.as_slice.ensures.value ∙ c.in_ok-readied.ensures.is) c.variables-variables.ensures
    (c.as_slice-2.ensures.value ∙ c.in_ok-taken.ensures)

pub returns : goal.returns
returns c place long are =
    let leaf : List Rounding × List (ℕ × ℤ) = (c.in_ok-leaf.leaf.roundings.items, c.in_ok-leaf.leaf.multipliers.items) in
    closed-by c.args.end c.args.lits.now c.args.reasons.now c.args.multipliers.now place c.args.known c.variables-variables.result c.as_slice.result.now c.as_slice-2.result.now leaf c.in_ok-tree.tree c.are_legal.ensures c.requires.known c.requires.conflict c.are_short.ensures
    (c.as_slice.ensures.value ∙ c.in_ok-readied.ensures.is) c.variables-variables.ensures (c.as_slice-2.ensures.value ∙ c.in_ok-taken.ensures) c.in_ok-leaf.ensures c.in_ok-tree.ensures long are
