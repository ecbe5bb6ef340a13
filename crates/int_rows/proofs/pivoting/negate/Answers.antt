use Rattle.std.proofs.Common.{◌≡◌, ◌<◌, arith, ap, ◌∙◌, rules, List, ℤ, get_or, length, set, FitsSigned, pos, neg_ℤ, ◌-ℤ◌}
use Rattle.std.specs.Int.{w64}
use Rattle.std.proofs.lemmas.Int.{ints, to_z-of_z}
use Rattle.std.proofs.lemmas.List.{get_or_default}
use Rattle.std.proofs.lemmas.List.Edits.{map_over_more}
use Rattle.int_rows.proofs.CombineLemmas.{small-at}
use Rattle.int_rows.proofs.PivotedLemmas.{over-read}
use Rattle.int_rows.proofs.MadeLemmas.{minus-fits}
use Rattle.int_rows.proofs.pivoting.negate.Goals as goal

pub loop-i-preserved : goal.loop-i-preserved
loop-i-preserved c =
    let xs : List ℤ = c.args.row.now in
    let ys : List ℤ = c.loop-i.row in
    let i = c.loop-i.i in
    let here : i < length xs = omega (arith, c.loop-i-test.true, c.loop-i.auto.row) in
    let x : ℤ = get_or ys i (pos 0) in
    let x_fits : FitsSigned w64 x = search rules in
    let before = c.loop-i.invariant in
    let old : x ≡ get_or xs i (pos 0) = over-read neg_ℤ xs ys i (pos 0) here before in
    let small = small-at xs i (pos 0) here c.requires in
    let n_fits : FitsSigned w64 (pos 0 -ℤ x) = omega (arith, ints, old, small) in
    let read : x ≡ get_or ys i x = get_or_default ys i (pos 0) x (omega (arith, c.loop-i-test.true)) in
    let minus : pos 0 -ℤ x ≡ neg_ℤ x = omega (arith, ints) in
    simp to_z-of_z (ap (set ys i) minus ∙ map_over_more neg_ℤ xs ys i x here before read)

pub overflow_sub-row : goal.overflow_sub-row
overflow_sub-row c =
    let xs : List ℤ = c.args.row.now in
    let i = c.loop-i.i in
    let x : ℤ = get_or c.loop-i.row i (pos 0) in
    let x_fits : FitsSigned w64 x = search rules in
    let old : x ≡ get_or xs i (pos 0) = over-read neg_ℤ xs c.loop-i.row i (pos 0) c.loop-i-test.true c.loop-i.invariant in
    simp to_z-of_z (minus-fits x (get_or xs i (pos 0)) old (small-at xs i (pos 0) c.loop-i-test.true c.requires))
