use Rattle.std.proofs.Common.{◌≡◌, ◌<◌, ◌^◌, arith, get_or, FitsSigned}
use Rattle.std.specs.Prelude.{pos, neg_ℤ, ◌-ℤ◌, nat_abs}
use Rattle.std.specs.Int.{w64}
use Rattle.std.proofs.lemmas.Int.{ints, to_z-of_z}
use Rattle.lin_atoms.proofs.LinearLemmas.{small_at}
use Rattle.linear_terms.proofs.MinusLemmas.{turned-end, turned-next}
use Rattle.linear_terms.proofs.minus.push_turned.Goals as goal

pub loop-i-preserved : goal.loop-i-preserved
loop-i-preserved c =
    let ts = c.args.terms.now in
    let i = c.loop-i.i in
    let a = (get_or ts i (0, pos 0)).1 in
    let small : nat_abs a < 2 ^ 63 = small_at ts i (0, pos 0) c.loop-i-test.true c.requires.short in
    let a_fits : FitsSigned w64 a = omega (arith, ints) in
    let minus : pos 0 -ℤ a ≡ neg_ℤ a = omega (arith, ints) in
    let fits : FitsSigned w64 (neg_ℤ a) = omega (arith, ints) in
    let pushed = simp (to_z-of_z, minus) at c.in_ok-push.ensures.items in
    record {
      told = turned-next c.loop-i.made.items c.push.new.self.items _ ts i (0, pos 0) c.loop-i-test.true pushed c.loop-i.invariant.told;
      within = omega (arith, c.loop-i-test.true);
    }

pub returns : goal.returns
returns c = turned-end c.loop-i.made.items _ c.args.terms.now c.loop-i.i (omega (arith, c.loop-i-test.false)) c.loop-i.invariant.told
