use Rattle.std.proofs.Common.{ap, ◌∙◌, FitsSigned}
use Rattle.std.specs.Int.{w128}
use Rattle.std.proofs.lemmas.Int.{to_z-of_z}
use Rattle.std.proofs.lemmas.List.{get_or_default}
use Rattle.term_tree.specs.Operators.{integer}
use Rattle.term_tree.proofs.arithmetic.number.Goals as goal

pub returns-then-place-values : goal.returns-then-place-values
returns-then-place-values c =
    let n_fits : FitsSigned w128 c.integer.result = record { sfits = c.integer.type_inv } in
    to_z-of_z _ _ n_fits ∙ c.integer.ensures ∙ ap integer (get_or_default c.args.values.now c.args.place _ _ c.if-place-values.true)
