use Rattle.std.proofs.Common.{◌<◌, ◌≤◌, length, Some, sym, ◌∙◌, arith}
use Rattle.std.specs.Prelude.{Option}
use Rattle.book_rules.specs.Instances.{Ground}
use Rattle.book_rules.specs.State.{Fact, same_conclusion}
use Rattle.step_rules.proofs.FactLemmas.{fact-has, fact-past}
use Rattle.step_rules.proofs.recording.is_fact_of.Goals as goal

pub returns-then-premise-count : goal.returns-then-premise-count
returns-then-premise-count c =
    let facts = c.args.facts.now in
    let past : length facts ≤ c.args.premise = omega arith in
    sym (fact-past facts c.args.premise (λ (f : Fact). same_conclusion f.conclusion (Some c.args.pair.now)) past)

pub returns : goal.returns
returns c =
    let facts = c.args.facts.now in
    let within : c.args.premise < length facts = omega arith in
    c.concludes.ensures ∙ sym (fact-has facts c.args.premise c.fact.result.now (λ (g : Option Ground). same_conclusion g (Some c.args.pair.now)) within c.fact.ensures)
