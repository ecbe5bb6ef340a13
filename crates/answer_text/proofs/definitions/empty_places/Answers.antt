use Rattle.std.proofs.Common.{arith}
use Rattle.answer_text.proofs.PlaceLemmas.{one_more_empty}
use Rattle.answer_text.proofs.definitions.empty_places.Goals as goal

pub loop-places-preserved : goal.loop-places-preserved
loop-places-preserved c =
    (one_more_empty c.loop-places.places.items c.push.new.self.items c.loop-places.invariant.0 c.in_ok-push.ensures.items, omega (arith, c.in_ok-push.ensures.len, c.loop-places-test.true, c.len.ensures))
