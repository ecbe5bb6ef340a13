use Rattle.std.proofs.Common.{◌≡◌, ap, ◌∙◌}
use Rattle.std.proofs.lemmas.Int.{to_z-of_z}
use Rattle.lin_atoms.specs.Linear.{Linear, are_ordered, fits}
use Rattle.lin_atoms.specs.Algebra.{scaled}
use Rattle.lin_atoms.proofs.Public.{both_true}
use Rattle.linear_terms.specs.Linear.{is_narrow, less, variable_form}
use Rattle.term_formulas.proofs.NarrowLemmas.{less_multiple}
use Rattle.term_formulas.proofs.kinds.rest.Goals as goal

pub narrow_less-requires : goal.narrow_less-requires
narrow_less-requires c =
    let rise = (both_true (are_ordered 0 c.args.lin.now.terms) (fits c.args.lin.now) c.constant-constant.ensures.legal).0 in
    let made : c.in_ok-multiple.field-0 ≡ scaled c.args.n (variable_form c.args.v) = simp (to_z-of_z, c.ranges.n) at c.in_ok-multiple.ensures in
    ap (λ (form : Linear). is_narrow (less c.args.lin.now form)) made ∙ less_multiple c.args.v c.args.lin.now rise c.requires.apart c.args.n c.requires.short
