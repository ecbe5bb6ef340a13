use Rattle.call_solve.proofs.AnswerLemmas.{legal_script, told}
use Rattle.call_solve.proofs.answer.answer_to.Goals as goal

pub answer_of-requires-clause-legal : goal.answer_of-requires-clause-legal
answer_of-requires-clause-legal g c =
    let found = c.in_ok-checked.ensures in
    let checked = c.in_ok-checked.checked in
    λ κs lives. legal_script checked (c.assertions_are_legal.ensures c.args.read.now found.0 found.1 checked c.arena_law.ensures.arena found.3)
    (c.scripts_are_within_limits.ensures c.args.read.now found.0 found.1 checked found.3)

pub returns : goal.returns
returns g c =
    told c.args.limits c.args.read.now c.in_ok-checked.checked c.requires.short c.in_ok-checked.ensures c.in_ok-answer.answer c.in_ok-answer.ensures
