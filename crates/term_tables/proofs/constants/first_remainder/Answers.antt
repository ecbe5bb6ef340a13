use Rattle.std.proofs.Common.{◌≡◌, get_or, rules, ap, ◌∙◌, to_z, of_z, FitsSigned}
use Rattle.std.proofs.lemmas.Int.{to_z-of_z}
use Rattle.std.specs.Prelude.{ℤ, pos}
use Rattle.std.specs.Int.{w64, w128, int_rem_euclid}
use Rattle.term_tables.proofs.LoopLemmas.{two_at}
use Rattle.term_tables.proofs.constants.first_remainder.Goals as goal

pub returns-in-len2-up : goal.returns-in-len2-up
returns-in-len2-up c =
    let ns = c.args.constants.now in
    let fits : FitsSigned w64 (get_or ns 0 (pos 0)) = search rules in
    let other_fits : FitsSigned w64 (get_or ns 1 (pos 0)) = search rules in
    let m_fits : FitsSigned w128 c.from.result = search rules in
    let n_fits : FitsSigned w128 c.from-in-len2-up.result = search rules in
    let whole : FitsSigned w128 c.remainder.result = search rules in
    let first : to_z w128 (of_z w128 c.from.result) ≡ get_or ns 0 (pos 0) = to_z-of_z _ _ m_fits ∙ c.from.ensures ∙ to_z-of_z _ _ fits in
    let second : to_z w128 (of_z w128 c.from-in-len2-up.result) ≡ get_or ns 1 (pos 0) = to_z-of_z _ _ n_fits ∙ c.from-in-len2-up.ensures ∙ to_z-of_z _ _ other_fits in
    to_z-of_z _ _ whole ∙ c.remainder.ensures ∙ ap (λ (m : ℤ). int_rem_euclid m (to_z w128 (of_z w128 c.from-in-len2-up.result))) first
    ∙ ap (int_rem_euclid (get_or ns 0 (pos 0))) second ∙ two_at int_rem_euclid ns c.in-len2-up.len_at_least
