use Rattle.check_input.proofs.whole.check_whole_input.Goals as goal

pub judged-requires-clause-read_as : goal.judged-requires-clause-read_as
judged-requires-clause-read_as c = record { parted = c.parts_of-parts.ensures.parted; read = c.in_ok-checked.ensures.read }

pub judged-requires-clause-accepted : goal.judged-requires-clause-accepted
judged-requires-clause-accepted c = (_, c.in-Ok.ensures.made)
