use Rattle.std.proofs.Common.{rules}
use Rattle.interpretations.proofs.NameLemmas.{one-more-name}
use Rattle.interpretations.proofs.defining.parameters.Goals as goal

pub loop-number-preserved : goal.loop-number-preserved
loop-number-preserved c =
    let l = c.loop-number in
    one-more-name c.args.sorts.now l.number l.names.items c.push.new.self.items _ c.in_ok-parameter.field-0 (search rules) c.in_ok-push.ensures.items c.in_ok-parameter.ensures l.invariant
