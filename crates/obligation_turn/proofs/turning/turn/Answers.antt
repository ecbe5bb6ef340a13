use Rattle.obligation_turn.proofs.turning.turn.Goals as goal

pub turn_in-requires-clause-work : goal.turn_in-requires-clause-work
turn_in-requires-clause-work c = c.new-work.ensures c.args.lent.now.system
