use Rattle.std.proofs.Common.{◌∙◌, to_z, of_z, FitsSigned}
use Rattle.std.specs.Prelude.{ℤ}
use Rattle.std.specs.Int.{int_rem_euclid, w128}
use Rattle.std.proofs.lemmas.Int.{to_z-of_z}
use Rattle.term_tree.proofs.CheckedLemmas.{on_first_two}
use Rattle.term_tree.proofs.operators.remainder_of.Goals as goal

pub returns : goal.returns
returns c =
    let m_fits : FitsSigned w128 c.number.result = record { sfits = c.number.type_inv } in
    let n_fits : FitsSigned w128 c.number-2.result = record { sfits = c.number-2.type_inv } in
    let r_fits : FitsSigned w128 c.remainder.result = record { sfits = c.remainder.type_inv } in
    let m : ℤ = to_z w128 (of_z w128 c.number.result) in
    let n : ℤ = to_z w128 (of_z w128 c.number-2.result) in
    to_z-of_z _ _ r_fits ∙ c.remainder.ensures ∙ on_first_two int_rem_euclid c.args.values.now _ m n c.if-values-lt2.false (to_z-of_z _ _ m_fits ∙ c.number.ensures) (to_z-of_z _ _ n_fits ∙ c.number-2.ensures)
