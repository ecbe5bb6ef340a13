use Rattle.std.proofs.Common.{arith}
use Rattle.std.specs.BTreeSet.{keys}
use Rattle.term_tree.proofs.PairLemmas.{all_put}
use Rattle.term_tree.proofs.pairs.put_partners.Goals as goal

pub loop-at-preserved : goal.loop-at-preserved
loop-at-preserved c = (
  omega (arith, c.loop-at-test.true),
  c.loop-at.invariant.1,
  λ test. all_put test (keys c.args.pairs.now) (keys c.loop-at.pairs) (keys c.put_pair.new.pairs) c.args.lefts.now c.args.rights.now c.loop-at.at
      (record { 0 = 0 }) (record { 0 = 0 }) (omega (arith, c.loop-at-test.true)) (omega (arith, c.loop-at-test.true, c.loop-at.invariant.1)) (c.loop-at.invariant.2 test) (c.in_ok-put_pair.ensures test),
)
