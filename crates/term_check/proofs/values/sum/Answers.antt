use Rattle.std.proofs.Common.{◌≡◌, ◌<◌, ◌≤◌, ◌+◌, ◌*◌, ◌^◌, List, length, drop, map, ap, ◌∙◌, sym, arith, rules, FitsSigned}
use Rattle.std.specs.Prelude.{◌+ℤ◌, fold, nat_abs}
use Rattle.std.specs.Int.{w64, w128, cast_signed}
use Rattle.std.proofs.lemmas.Int.{ints, to_z-of_z}
use Rattle.std.proofs.lemmas.List.{drop_more}
use Rattle.term_check.specs.declared.part.Part.{Part}
use Rattle.term_check.specs.Rules.{worth}
use Rattle.term_check.proofs.values.sum.Goals as goal

pub loop-part-preserved : goal.loop-part-preserved
loop-part-preserved c =
    let parts = c.args.parts.now in
    let i = c.loop-part.part-index in
    let before = cast_signed w128 c.loop-part.sum-bits in
    let short : length parts < 2 ^ 63 = search rules in
    let fits : FitsSigned w64 c.worth.result = search rules in
    let wide : FitsSigned w128 c.from-sum.result = search rules in
    let is : c.from-sum.result ≡ c.worth.result = simp to_z-of_z at c.from-sum.ensures in
    let small : nat_abs (before +ℤ c.from-sum.result) ≤ 2 ^ 63 * (i + 1) = omega (arith, ints, is, fits.sfits, c.loop-part.invariant.1) in
    let whole : FitsSigned w128 (before +ℤ c.from-sum.result) = omega (arith, ints, small, short, c.loop-part-test.true) in
    let row = drop_more parts i _ c.loop-part-test.true in
    let told = ap (λ n. fold (λ a k. a +ℤ k) (before +ℤ n) (map worth (drop (i + 1) parts))) (is ∙ c.worth.ensures)
    ∙ sym (ap (λ (l : List Part). fold (λ a k. a +ℤ k) before (map worth l)) row) ∙ c.loop-part.invariant.0 in
    simp to_z-of_z (told, small)
