use Rattle.std.proofs.Common.{ap, ◌∙◌}
use Rattle.linear_terms.specs.Linear.{is_narrow}
use Rattle.term_formulas.proofs.place.choice_of.Goals as goal

pub choice_place-requires : goal.choice_place-requires
choice_place-requires c = ap is_narrow c.in_ok-bit.ensures.is ∙ c.in_ok-bit.ensures.narrow
