use Rattle.std.proofs.Common.{◌≡◌, ◌≤◌, ◌+◌, ◌*◌, ◌^◌, ◌∙◌, ap, List, drop, length, arith, rules, get_or, FitsSigned, to_z}
use Rattle.std.specs.Prelude.{ℤ, pos, nat_abs, ◌+ℤ◌, ◌*ℤ◌}
use Rattle.std.specs.Int.{int_signum, w8, w64, w128}
use Rattle.std.proofs.lemmas.Int.{ints, to_z-of_z}
use Rattle.std.proofs.lemmas.List.{drop_all}
use Rattle.lin_atoms.specs.Dot.{dot}
use Rattle.lin_atoms.proofs.DotLemmas.{dot-more, halves-added, high-fits, high-more, low-more}
use Rattle.lin_atoms.proofs.dot.sign_of_dot.Goals as goal

pub overflow_add-high : goal.overflow_add-high
overflow_add-high c = omega (arith, ints, c.loop-i.invariant.high, c.parts-upper.ensures.high, c.loop-i-test.true, c.requires.short)

pub loop-i-preserved : goal.loop-i-preserved
loop-i-preserved c =
    let i = c.loop-i.i in
    let high = to_z w128 c.loop-i.high-bits in
    let a_fits : FitsSigned w64 (get_or c.args.a.now i (pos 0)) = search rules in
    let b_fits : FitsSigned w64 (get_or c.args.b.now i (pos 0)) = search rules in
    let c_fits : FitsSigned w128 c.args.c = c.ranges.c in
    let product_fits : FitsSigned w128 c.product.result = search rules in
    let upper_fits : FitsSigned w128 c.parts-upper.result.0 = search rules in
    let more : nat_abs (high +ℤ c.parts-upper.result.0) ≤ (i + 1 + 1) * 2 ^ 63 = high-more high c.parts-upper.result.0 i c.loop-i.invariant.high c.parts-upper.ensures.high in
    let sum_fits : FitsSigned w128 (high +ℤ c.parts-upper.result.0) = high-fits (high +ℤ c.parts-upper.result.0) i (length c.args.a.now) more c.loop-i-test.true c.requires.short in
    let halves = simp to_z-of_z at c.parts-upper.ensures.value in
    let multiplied = simp to_z-of_z at c.product.ensures in
    let before = simp to_z-of_z at c.loop-i.invariant.value in
    simp to_z-of_z (record {
      value = dot-more c.args.a.now c.args.b.now i _ _ _ c.loop-i-test.true c.requires.same before (halves-added high c.parts-upper.result.0 _ c.loop-i.low c.parts-upper.result.1 (halves ∙ multiplied));
      high = more;
      low = low-more c.loop-i.low c.parts-upper.result.1 i c.loop-i.invariant.low c.parts-upper.ensures.low;
    })

pub returns : goal.returns
returns c =
    let i = c.loop-i.i in
    let high = to_z w128 c.loop-i.high-bits in
    let r_fits : FitsSigned w8 c.sign_of_parts.result = search rules in
    let c_fits : FitsSigned w128 c.args.c = c.ranges.c in
    let before = simp to_z-of_z at c.loop-i.invariant.value in
    let gone : dot (drop i c.args.a.now) (drop i c.args.b.now) ≡ pos 0 = ap (λ (xs : List ℤ). dot xs (drop i c.args.b.now)) (drop_all i c.args.a.now c.loop-i-test.false) in
    let same : high *ℤ pos (2 ^ 64) +ℤ pos c.loop-i.low ≡ dot c.args.a.now c.args.b.now +ℤ c.args.c = omega (arith, ints, before, gone) in
    simp to_z-of_z (c.sign_of_parts.ensures ∙ ap int_signum same)
