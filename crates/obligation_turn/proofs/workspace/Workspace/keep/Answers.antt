use Rattle.obligation_turn.proofs.MemoLemmas.{kept-set}
use Rattle.obligation_turn.proofs.workspace.Workspace.keep.Goals as goal

pub returns-in_err-make_room : goal.returns-in_err-make_room
returns-in_err-make_room c = c.in_err-make_room.ensures.work c.args.lent.now.system c.requires.work

pub returns : goal.returns
returns c = kept-set c.make_room.new.work.kept.items _ c.args.id c.args.seen c.args.lent.now.system (c.in_ok-make_room.ensures.work c.args.lent.now.system c.requires.work) c.requires.seen c.put.ensures
