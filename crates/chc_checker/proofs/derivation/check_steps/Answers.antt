use Rattle.chc_checker.proofs.derivation.check_steps.Goals as goal

pub returns : goal.returns
returns c = λ nodes. c.verdict_of.ensures nodes c.args.script.now c.args.lines.now c.in_ok-finding.ensures
