use Rattle.std.proofs.Common.{refl}
use Rattle.lia_stack.specs.machinery.Opened.{no_lit}
use Rattle.lia_stack.proofs.StateLemmas.{closed-falsely, false-lit, false-there, short-lit, top-numbers}
use Rattle.lia_stack.proofs.TurnLemmas.{top}
use Rattle.lia_stack.proofs.state.Search.close_by_literal.Goals as goal

pub by_literal-requires-clause-there : goal.by_literal-requires-clause-there
by_literal-requires-clause-there c = false-there c.args.waiting.now.lits c.args.at c.requires.is_false

pub by_literal-requires-clause-each : goal.by_literal-requires-clause-each
by_literal-requires-clause-each c = top-numbers c.args.self.now c.args.waiting.now (top _ _ c.requires.is)

pub by_literal-requires-clause-is_false : goal.by_literal-requires-clause-is_false
by_literal-requires-clause-is_false c = false-lit c.args.waiting.now.lits c.args.at no_lit c.requires.is_false

pub by_literal-requires-clause-short : goal.by_literal-requires-clause-short
by_literal-requires-clause-short c =
    let lits = c.args.waiting.now.lits in
    short-lit lits c.args.at no_lit (false-there lits c.args.at c.requires.is_false) (top c.args.self.now c.args.waiting.now c.requires.is).is.short

pub returns : goal.returns
returns c = closed-falsely c.args.self.now _ c.args.waiting.now c.args.at no_lit c.in_ok-tree.tree (top _ _ c.requires.is) c.requires.is_false c.in_ok-tree.ensures refl c.in_ok-push.ensures.items
