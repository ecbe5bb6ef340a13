use Rattle.std.proofs.Common.{◌≡◌, ◌<◌, get_or, rules, ap, sym, ◌∙◌, subst, to_z, of_z, FitsSigned}
use Rattle.std.proofs.lemmas.Int.{to_z-of_z}
use Rattle.std.specs.Prelude.{ℤ, pos, nat_abs}
use Rattle.std.specs.Int.{w64, w128, int_div_euclid}
use Rattle.base.specs.Widths.{long_limit}
use Rattle.term_tables.proofs.LoopLemmas.{long_fits, two_at}
use Rattle.term_tables.proofs.constants.first_quotient.Goals as goal

pub quotient-requires : goal.quotient-requires
quotient-requires c =
    let fits : FitsSigned w64 (get_or c.args.constants.now 0 (pos 0)) = search rules in
    let m_fits : FitsSigned w128 c.from.result = search rules in
    let is = to_z-of_z _ _ m_fits ∙ c.from.ensures ∙ to_z-of_z _ _ fits in
    subst (λ (k : ℤ). nat_abs k < long_limit) (sym is) (long_fits (get_or c.args.constants.now 0 (pos 0)) fits)

pub returns-in-len2-up : goal.returns-in-len2-up
returns-in-len2-up c =
    let ns = c.args.constants.now in
    let fits : FitsSigned w64 (get_or ns 0 (pos 0)) = search rules in
    let other_fits : FitsSigned w64 (get_or ns 1 (pos 0)) = search rules in
    let m_fits : FitsSigned w128 c.from.result = search rules in
    let n_fits : FitsSigned w128 c.from-in-len2-up.result = search rules in
    let whole : FitsSigned w128 c.quotient.result = search rules in
    let first : to_z w128 (of_z w128 c.from.result) ≡ get_or ns 0 (pos 0) = to_z-of_z _ _ m_fits ∙ c.from.ensures ∙ to_z-of_z _ _ fits in
    let second : to_z w128 (of_z w128 c.from-in-len2-up.result) ≡ get_or ns 1 (pos 0) = to_z-of_z _ _ n_fits ∙ c.from-in-len2-up.ensures ∙ to_z-of_z _ _ other_fits in
    to_z-of_z _ _ whole ∙ c.quotient.ensures ∙ ap (λ (m : ℤ). int_div_euclid m (to_z w128 (of_z w128 c.from-in-len2-up.result))) first
    ∙ ap (int_div_euclid (get_or ns 0 (pos 0))) second ∙ two_at int_div_euclid ns c.in-len2-up.len_at_least
