use Rattle.std.proofs.Common.{◌≡◌, ap, ◌∙◌, rules, FitsSigned}
use Rattle.std.specs.Prelude.{ℤ, pos, nat_abs}
use Rattle.std.specs.Int.{w64, w128}
use Rattle.std.proofs.lemmas.Int.{to_z-of_z}
use Rattle.term_check.proofs.ValueLemmas.{first_worth}
use Rattle.term_check.proofs.values.magnitude.Goals as goal

pub returns-in-len1-up : goal.returns-in-len1-up
returns-in-len1-up c =
    let worth_fits : FitsSigned w64 c.worth.result = search rules in
    let from_fits : FitsSigned w128 c.from.result = search rules in
    let whole : FitsSigned w128 c.abs.result = search rules in
    let same : c.from.result ≡ c.worth.result = simp to_z-of_z at c.from.ensures in
    let is : c.abs.result ≡ pos (nat_abs c.from.result) = simp to_z-of_z at c.abs.ensures.value in
    simp to_z-of_z (is ∙ ap (λ (k : ℤ). pos (nat_abs k)) (same ∙ first_worth c.args.parts.now _ _ c.in-len1-up.len_at_least c.worth.ensures))
