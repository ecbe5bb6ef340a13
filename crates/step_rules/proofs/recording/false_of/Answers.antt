use Rattle.std.proofs.Common.{◌-◌, sym, ◌∙◌, arith}
use Rattle.step_rules.proofs.FactLemmas.{false-empty, false-last, false-none}
use Rattle.step_rules.proofs.recording.false_of.Goals as goal

pub returns-then-count-eq0 : goal.returns-then-count-eq0
returns-then-count-eq0 c = false-empty c.args.facts.now (omega arith)

pub returns-then-is_false : goal.returns-then-is_false
returns-then-is_false c = false-last c.args.facts.now (c.count-count.result - 1) c.fact.result.now c.requires (omega arith) c.fact.ensures (sym c.is_false.ensures ∙ c.if-is_false.true)

pub returns : goal.returns
returns c = false-none c.args.facts.now (c.count-count.result - 1) c.fact.result.now c.requires (omega arith) c.fact.ensures (sym c.is_false.ensures ∙ c.if-is_false.false)
