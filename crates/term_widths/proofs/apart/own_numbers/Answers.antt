use Rattle.std.proofs.Common.{get_or, refl}
use Rattle.term_widths.proofs.FirstLemmas.{numbers_more}
use Rattle.term_widths.proofs.apart.own_numbers.Goals as goal

pub loop-id-preserved : goal.loop-id-preserved
loop-id-preserved c =
    numbers_more c.args.placed.now c.loop-id.id-index 0 (get_or c.args.placed.now c.loop-id.id-index 0) c.loop-id.numbers c.keep.new.firsts c.loop-id-test.true refl c.loop-id.invariant
    c.in_ok-keep.ensures.here c.in_ok-keep.ensures.others
