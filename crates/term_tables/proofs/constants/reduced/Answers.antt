use Rattle.std.proofs.Common.{◌≡◌, ◌≤◌, ◌<◌, ◌+◌, ◌*◌, ◌^◌, length, drop, get_or, rules, arith, ap, sym, ◌∙◌, subst, to_z, of_z, FitsSigned}
use Rattle.std.proofs.lemmas.Int.{to_z-of_z}
use Rattle.std.specs.Prelude.{ℤ, pos, nat_abs, fold, ◌-ℤ◌}
use Rattle.std.specs.Int.{w64, w128}
use Rattle.term_tables.specs.machinery.Table.{signed_sum}
use Rattle.term_tables.proofs.LoopLemmas.{fold_end, fold_on, more_difference, room_for}
use Rattle.term_tables.proofs.constants.reduced.Goals as goal

pub overflow_sub-total : goal.overflow_sub-total
overflow_sub-total c =
    let total : ℤ = to_z w128 c.loop-n.total-bits in
    let n : ℤ = c.from-total-in-loop-n.result in
    let n_fits : FitsSigned w128 n = search rules in
    let item_fits : FitsSigned w64 (get_or c.args.others.now c.loop-n.n-index (pos 0)) = search rules in
    let is = c.from-total-in-loop-n.ensures ∙ to_z-of_z _ _ item_fits in
    let fits : FitsSigned w64 n = subst (FitsSigned w64) (sym is) item_fits in
    let short : length c.args.others.now < 2 ^ 63 = search rules in
    let whole = room_for (total -ℤ n) (c.loop-n.n-index + 1 + 1) (more_difference total n (c.loop-n.n-index + 1) c.loop-n.invariant.small fits) (omega (arith, short, c.loop-n-test.true)) in
    subst (λ (k : ℤ). FitsSigned w128 (total -ℤ k)) (sym (to_z-of_z _ _ n_fits)) whole

pub loop-n-preserved : goal.loop-n-preserved
loop-n-preserved c =
    let ns = c.args.others.now in
    let i = c.loop-n.n-index in
    let total : ℤ = to_z w128 c.loop-n.total-bits in
    let n : ℤ = c.from-total-in-loop-n.result in
    let n_fits : FitsSigned w128 n = search rules in
    let item_fits : FitsSigned w64 (get_or ns i (pos 0)) = search rules in
    let is : n ≡ get_or ns i (pos 0) = c.from-total-in-loop-n.ensures ∙ to_z-of_z _ _ item_fits in
    let fits : FitsSigned w64 n = subst (FitsSigned w64) (sym is) item_fits in
    let short : length ns < 2 ^ 63 = search rules in
    let small : nat_abs (total -ℤ n) ≤ (i + 1 + 1) * 2 ^ 63 = more_difference total n (i + 1) c.loop-n.invariant.small fits in
    let whole : FitsSigned w128 (total -ℤ n) = room_for (total -ℤ n) (i + 1 + 1) small (omega (arith, short, c.loop-n-test.true)) in
    let back : to_z w128 (of_z w128 (total -ℤ to_z w128 (of_z w128 n))) ≡ total -ℤ n = ap (λ (k : ℤ). to_z w128 (of_z w128 (total -ℤ k))) (to_z-of_z _ _ n_fits) ∙ to_z-of_z _ _ whole in
    record {
      told = ap (λ (a : ℤ). fold (λ x y. x -ℤ y) a (drop (i + 1) ns)) back ∙ fold_on (λ x y. x -ℤ y) total n ns i c.loop-n-test.true is ∙ c.loop-n.invariant.told;
      small = subst (λ (z : ℤ). nat_abs z ≤ (i + 1 + 1) * 2 ^ 63) (sym back) small;
    }

pub returns : goal.returns
returns c =
    let first_fits : FitsSigned w64 c.args.first = c.ranges.first in
    fold_end (λ x y. x -ℤ y) (to_z w128 c.loop-n.total-bits) c.args.others.now c.loop-n.n-index c.loop-n-test.false ∙ c.loop-n.invariant.told
    ∙ ap (λ (a : ℤ). signed_sum a c.args.others.now) (to_z-of_z _ _ first_fits)
