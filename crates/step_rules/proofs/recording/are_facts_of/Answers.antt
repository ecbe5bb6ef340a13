use Rattle.std.proofs.Common.{sym, arith}
use Rattle.step_rules.specs.Views.{facts_of}
use Rattle.step_rules.proofs.FactLemmas.{facts-uneven}
use Rattle.step_rules.proofs.recording.are_facts_of.Goals as goal

pub returns-then-premises-body : goal.returns-then-premises-body
returns-then-premises-body c =
    let uneven = c.if-premises-body.true in
    sym (facts-uneven (facts_of c.args.facts.now) c.args.premises.now c.args.body.now (λ same. absurd (omega (arith, same, uneven))))
