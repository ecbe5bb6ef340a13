use Rattle.step_rules.specs.Views.{facts_of}
use Rattle.cert_derivations.specs.Lines.{fact_lines}
use Rattle.cert_derivations.proofs.AddLemmas.{lines-more}
use Rattle.cert_derivations.proofs.of_facts.lines.Goals as goal

pub loop-id-preserved : goal.loop-id-preserved
loop-id-preserved c =
    let sys = c.args.system.now in
    let facts = facts_of c.args.facts.now in
    let among = c.args.among.now in
    lines-more sys facts among c.loop-id.id-index c.loop-id.lines.items c.add.new.lines.items (fact_lines sys facts among) c.loop-id-test.true c.in_ok-add.ensures c.loop-id.invariant
