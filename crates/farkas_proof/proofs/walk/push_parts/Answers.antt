use Rattle.std.proofs.Common.{◌≡◌, ◌<◌, ◌+◌, ◌-◌, arith, length}
use Rattle.farkas_proof.proofs.WalkLemmas.{part-waits, part-weighs}
use Rattle.farkas_proof.proofs.walk.push_parts.Goals as goal

pub loop-left-preserved : goal.loop-left-preserved
loop-left-preserved c =
    let left = c.loop-left.left in
    let i = c.loop-left.left - 1 in
    let before = c.args.work.now.items in
    let now = c.loop-left.work.items in
    let then = c.push.new.self.items in
    let one_less : i + 1 ≡ left = omega arith in
    let same = c.requires in
    let within = c.loop-left.invariant.within in
    let h : i < length c.args.subs.now = omega arith in
    let g : i < length c.args.parts.now = omega arith in
    record {
      after = λ end lits cases next. part-waits end c.args.which c.args.subs.now c.args.parts.now before now then i left _ _ lits cases next c.in_ok-push.ensures.items one_less h g c.index-subs-left.is c.index-parts-left.is (c.loop-left.invariant.after end lits cases);
      weight = part-weighs c.args.subs.now before now then i left c.args.which _ _ c.in_ok-push.ensures.items one_less h c.index-subs-left.is c.loop-left.invariant.weight;
      within = omega arith;
    }
