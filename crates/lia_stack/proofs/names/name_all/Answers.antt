use Rattle.std.proofs.Common.{arith}
use Rattle.lia_stack.proofs.NamingLemmas.{names-on}
use Rattle.lia_stack.proofs.names.name_all.Goals as goal

pub name-preserved : goal.name-preserved
name-preserved c =
    let i = c.name.invariant in
    let test = c.name-test.true in
    let len = c.len.ensures in
    let on = names-on c.args.waiting.now c.name.waiting _ c.args.steps.now.items c.name.steps.items _ c.name.at (record { at = i.at; some = i.some; each = i.each; waiting = i.waiting; steps = i.steps }) (omega (arith, test, len)) c.in_ok-name_next.ensures.waiting c.in_ok-name_next.ensures.steps in
    record { at = on.at; some = on.some; each = on.each; waiting = on.waiting; steps = on.steps }
