use Rattle.std.proofs.Common.{◌≡◌, ◌-◌, length, take, drop, get_or, rules, ap, sym, ◌∙◌, subst, to_z, of_z, FitsSigned}
use Rattle.std.proofs.lemmas.Int.{to_z-of_z}
use Rattle.std.specs.Prelude.{ℤ, pos, ◌-ℤ◌}
use Rattle.std.specs.Int.{w64, w128}
use Rattle.term_tables.specs.machinery.Table.{signed_sum}
use Rattle.term_tables.proofs.LoopLemmas.{denied_fits, difference_more, difference_one}
use Rattle.term_tables.proofs.constants.difference.Goals as goal

pub overflow_sub-result : goal.overflow_sub-result
overflow_sub-result c =
    let fits : FitsSigned w64 (get_or c.args.constants.now 0 (pos 0)) = search rules in
    let n_fits : FitsSigned w128 c.from.result = search rules in
    let is : to_z w128 (of_z w128 c.from.result) ≡ get_or c.args.constants.now 0 (pos 0) = to_z-of_z _ _ n_fits ∙ c.from.ensures ∙ to_z-of_z _ _ fits in
    subst (λ (k : ℤ). FitsSigned w128 (pos 0 -ℤ k)) (sym is) (denied_fits (get_or c.args.constants.now 0 (pos 0)) fits)

pub returns-in-len1 : goal.returns-in-len1
returns-in-len1 c =
    let ns = c.args.constants.now in
    let fits : FitsSigned w64 (get_or ns 0 (pos 0)) = search rules in
    let n_fits : FitsSigned w128 c.from.result = search rules in
    let is : to_z w128 (of_z w128 c.from.result) ≡ get_or ns 0 (pos 0) = to_z-of_z _ _ n_fits ∙ c.from.ensures ∙ to_z-of_z _ _ fits in
    ap (λ (k : ℤ). to_z w128 (of_z w128 (pos 0 -ℤ k))) is ∙ to_z-of_z _ _ (denied_fits (get_or ns 0 (pos 0)) fits) ∙ difference_one ns c.in-len1.len_at_least c.in-len1.len_below

pub returns-in-len1-up : goal.returns-in-len1-up
returns-in-len1-up c =
    let ns = c.args.constants.now in
    let fits : FitsSigned w64 (get_or ns 0 (pos 0)) = search rules in
    let n_fits : FitsSigned w128 c.reduced.result = search rules in
    to_z-of_z _ _ n_fits ∙ c.reduced.ensures ∙ ap (λ (k : ℤ). signed_sum k (take (length ns - 1) (drop 1 ns))) (to_z-of_z _ _ fits) ∙ difference_more ns c.in-len1-up.len_at_least
