use Rattle.std.proofs.Common.{◌∙◌, to_z, of_z, FitsSigned}
use Rattle.std.specs.Prelude.{ℤ}
use Rattle.std.specs.Int.{w128}
use Rattle.std.proofs.lemmas.Int.{to_z-of_z}
use Rattle.term_tree.proofs.CheckedLemmas.{negated_one, reduced_more}
use Rattle.term_tree.proofs.arithmetic.difference.Goals as goal

pub returns-then-values-eq1 : goal.returns-then-values-eq1
returns-then-values-eq1 c =
    let n_fits : FitsSigned w128 c.integer.result = record { sfits = c.integer.type_inv } in
    let n : ℤ = to_z w128 (of_z w128 c.integer.result) in
    c.negated.ensures ∙ negated_one c.args.values.now _ n c.if-values-eq1.true (to_z-of_z _ _ n_fits ∙ c.integer.ensures)

pub returns : goal.returns
returns c =
    let n_fits : FitsSigned w128 c.integer-2.result = record { sfits = c.integer-2.type_inv } in
    let n : ℤ = to_z w128 (of_z w128 c.integer-2.result) in
    c.reduced.ensures ∙ reduced_more c.args.values.now _ n c.if-is_empty.ensures c.if-values-eq1.false (to_z-of_z _ _ n_fits ∙ c.integer-2.ensures)
