use Rattle.std.proofs.Common.{◌<◌, ◌≤◌, length, Some, sym, ◌∙◌, arith}
use Rattle.book_rules.specs.State.{holds_of}
use Rattle.step_rules.specs.machinery.Walks.{lies_in}
use Rattle.step_rules.proofs.FactLemmas.{fact-has, fact-past}
use Rattle.step_rules.proofs.lookups.lies_in.Goals as goal

pub returns-then-id-count : goal.returns-then-id-count
returns-then-id-count c =
    let facts = c.args.facts.now in
    let past : length facts ≤ c.args.id = omega arith in
    sym (fact-past facts c.args.id (lies_in c.args.pred c.args.cube.now) past)

pub returns : goal.returns
returns c =
    let facts = c.args.facts.now in
    let within : c.args.id < length facts = omega arith in
    c.is_in.ensures ∙ sym (fact-has facts c.args.id c.fact.result.now (holds_of (Some c.args.pred) c.args.cube.now) within c.fact.ensures)
