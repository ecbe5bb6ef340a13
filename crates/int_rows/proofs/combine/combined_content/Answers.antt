use Rattle.std.proofs.Common.{◌≡◌, ◌<◌, ◌≤◌, ◌^◌, arith, sym, ap, ◌∙◌, subst, FitsSigned, rules, List, ℤ, get_or, nat_abs, length}
use Rattle.std.specs.Prelude.{pos, ◌-ℤ◌, ◌*ℤ◌}
use Rattle.std.specs.Int.{w64, w128, IsGcd}
use Rattle.std.proofs.lemmas.Int.{to_z-of_z}
use Rattle.int_rows.specs.Pivot.{combined}
use Rattle.int_rows.proofs.CombineLemmas.{combined-at, length-combined, other-small, small-at}
use Rattle.int_rows.proofs.ContentLemmas.{common-end, common-more, common-one}
use Rattle.int_rows.proofs.MadeLemmas.{read-small}
use Rattle.int_rows.proofs.combine.combined_content.Goals as goal

pub with_entry-divisor-requires-clause-x : goal.with_entry-divisor-requires-clause-x
with_entry-divisor-requires-clause-x c = read-small (get_or c.args.row.now c.loop-i.i (pos 0)) (small-at c.args.row.now c.loop-i.i (pos 0) c.loop-i-test.true c.requires.row)

pub with_entry-divisor-requires-clause-y : goal.with_entry-divisor-requires-clause-y
with_entry-divisor-requires-clause-y c = read-small (get_or c.args.other.now c.loop-i.i (pos 0)) (other-small c.args.row.now c.args.other.now c.loop-i.i (pos 0) c.loop-i-test.true c.requires.same c.requires.other)

pub loop-i-preserved : goal.loop-i-preserved
loop-i-preserved c =
    let p_fits : FitsSigned w64 c.args.p = c.ranges.p in
    let q_fits : FitsSigned w64 c.args.q = c.ranges.q in
    let xs : List ℤ = c.args.row.now in
    let ys : List ℤ = c.args.other.now in
    let p = c.args.p in
    let q = c.args.q in
    let i = c.loop-i.i in
    let same : length xs ≡ length ys = c.requires.same in
    let here : i < length xs = c.loop-i-test.true in
    let there : i < length ys = omega (arith, here, same) in
    let within : i < length (combined p q xs ys) = omega (arith, here, length-combined p q xs ys same) in
    let x_fits : FitsSigned w64 (get_or xs i (pos 0)) = search rules in
    let y_fits : FitsSigned w64 (get_or ys i (pos 0)) = search rules in
    let before = simp to_z-of_z at c.loop-i.invariant.told in
    let told = simp to_z-of_z at c.with_entry-divisor.ensures.common in
    let number : nat_abs (p *ℤ get_or xs i (pos 0) -ℤ q *ℤ get_or ys i (pos 0)) ≡ nat_abs (get_or (combined p q xs ys) i (pos 0)) = ap nat_abs (sym (combined-at p q xs ys i (pos 0) here same)) in
    simp to_z-of_z (record {
      told = common-more (combined p q xs ys) i (pos 0) c.loop-i.divisor c.with_entry-divisor.result within before (subst (λ n. IsGcd c.loop-i.divisor n c.with_entry-divisor.result) number told);
      bound = c.with_entry-divisor.ensures.bound;
    })

pub returns-then-divisor-eq1-clause-is : goal.returns-then-divisor-eq1-clause-is
returns-then-divisor-eq1-clause-is c =
    let p_fits : FitsSigned w64 c.args.p = c.ranges.p in
    let q_fits : FitsSigned w64 c.args.q = c.ranges.q in
    let before = simp to_z-of_z at c.loop-i.invariant.told in
    sym (common-one (combined c.args.p c.args.q c.args.row.now c.args.other.now) c.loop-i.i c.loop-i.divisor c.if-divisor-eq1.true before)

pub returns-clause-is : goal.returns-clause-is
returns-clause-is c =
    let p_fits : FitsSigned w64 c.args.p = c.ranges.p in
    let q_fits : FitsSigned w64 c.args.q = c.ranges.q in
    let before = simp to_z-of_z at c.loop-i.invariant.told in
    let ended : length (combined c.args.p c.args.q c.args.row.now c.args.other.now) ≤ c.loop-i.i = omega (arith, c.loop-i-test.false, length-combined c.args.p c.args.q c.args.row.now c.args.other.now c.requires.same) in
    sym (common-end (combined c.args.p c.args.q c.args.row.now c.args.other.now) c.loop-i.i c.loop-i.divisor ended before)
