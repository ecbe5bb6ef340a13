use Rattle.std.proofs.Common.{◌<◌, length, arith}
use Rattle.step_rules.specs.Views.{facts_of}
use Rattle.obligation_turn.proofs.PremiseLemmas.{missing-at, recorded-more}
use Rattle.obligation_turn.proofs.premises.premises_at.Goals as goal

pub returns-in-None : goal.returns-in-None
returns-in-None c =
    let within : c.loop-number.number < length c.args.atoms.now = omega arith in
    missing-at (facts_of c.args.facts.now) c.args.atoms.now c.args.point.now c.loop-number.number c.index-atoms-number.result c.in_ok-found.found within c.index-atoms-number.is c.in_ok-found.ensures c.in-None.is

pub loop-number-preserved : goal.loop-number-preserved
loop-number-preserved c =
    let within : c.loop-number.number < length c.args.atoms.now = omega arith in
    recorded-more (facts_of c.args.facts.now) c.loop-number.premises c.push.new.self c.args.point.now c.args.atoms.now c.loop-number.number c.index-atoms-number.result c.in_ok-found.found c.in-Some.fact within c.index-atoms-number.is c.in_ok-found.ensures c.in-Some.is
    c.in_ok-push-in-Some.ensures.ok c.loop-number.invariant
