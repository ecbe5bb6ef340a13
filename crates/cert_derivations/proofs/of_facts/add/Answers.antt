use Rattle.std.proofs.Common.{◌≡◌, ◌<◌, ◌≤◌, ◌+◌, suc, length, arith}
use Rattle.step_rules.specs.Views.{facts_of}
use Rattle.step_rules.proofs.Public.{length-facts}
use Rattle.cert_derivations.proofs.AddLemmas.{added-kept, added-none}
use Rattle.cert_derivations.proofs.of_facts.add.Goals as goal

pub returns-then-id-count : goal.returns-then-id-count
returns-then-id-count c =
    let facts = c.args.facts.now in
    let past : length facts ≤ c.args.id = omega arith in
    let long = length-facts facts in
    added-none c.args.system.now (facts_of facts) c.args.among.now c.args.id c.args.lines.now.items (omega (arith, past, long))

pub returns : goal.returns
returns c =
    let facts = c.args.facts.now in
    let within : c.args.id < length facts = omega arith in
    let number : c.len.result + 1 ≡ suc (length c.args.lines.now.items) = omega arith in
    added-kept c.args.system.now facts c.args.among.now c.args.id c.fact.result.now c.args.lines.now.items c.push.new.self.items (c.len.result + 1) c.in_ok-line.line within c.fact.ensures
    c.in_ok-line.ensures number c.in_ok-push.ensures.items
