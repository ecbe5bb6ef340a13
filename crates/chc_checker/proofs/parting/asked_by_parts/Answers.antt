use Rattle.chc_checker.proofs.parting.asked_by_parts.Goals as goal

pub returns : goal.returns
returns c = c.by_parts.ensures
