use Rattle.cert_derivations.proofs.PlaceLemmas.{numbers-more}
use Rattle.cert_derivations.proofs.of_facts.numbers_among.Goals as goal

pub loop-fact-preserved : goal.loop-fact-preserved
loop-fact-preserved c =
    numbers-more c.args.among.now c.args.facts.now c.loop-fact.fact-index c.loop-fact.numbers.items c.push.new.self.items c.number_among.result c.loop-fact-test.true c.number_among.ensures
    c.in_ok-push.ensures.items c.loop-fact.invariant
