use Rattle.std.proofs.Common.{refl}
use Rattle.lia_stack.proofs.StateLemmas.{joined-at}
use Rattle.lia_stack.proofs.TurnLemmas.{top}
use Rattle.lia_stack.proofs.state.Search.take_in.Goals as goal

pub returns : goal.returns
returns c = joined-at c.args.self.now _ c.args.waiting c.take_in.new.self c.args.at (top _ _ c.requires.is) c.requires.there c.in_ok-take_in.ensures refl c.in_ok-push.ensures.items
