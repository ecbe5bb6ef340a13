use Rattle.lia_stack.proofs.StateLemmas.{left-again, left-first, some-kept}
use Rattle.lia_stack.proofs.TurnLemmas.{top}
use Rattle.lia_stack.proofs.state.Search.give_up.Goals as goal

pub returns-then-is_none : goal.returns-then-is_none
returns-then-is_none c = left-first c.args.self.now c.args.waiting.now c.args.evidence (top _ _ c.requires.is) c.requires.evidence c.requires.of_node

pub returns : goal.returns
returns c = left-again c.args.self.now c.args.waiting.now (top _ _ c.requires.is) (some-kept c.args.self.now.kept c.is_none.result c.is_none.ensures c.if-is_none.false)
