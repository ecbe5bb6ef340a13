use Rattle.std.proofs.Common.{ap, sym, ◌∙◌, refl}
use Rattle.std.specs.List.{list_all}
use Rattle.lia_node.specs.Known.{is_legal}
use Rattle.lia_stack.proofs.StateLemmas.{top-numbers}
use Rattle.lia_stack.proofs.TurnLemmas.{all-named, top}
use Rattle.lia_stack.proofs.state.Search.name.Goals as goal

pub name_all-requires-clause-each : goal.name_all-requires-clause-each
name_all-requires-clause-each c = top-numbers c.args.self.now c.args.waiting.now (top _ _ c.requires.is)

pub name_all-requires-clause-some : goal.name_all-requires-clause-some
name_all-requires-clause-some c = (top c.args.self.now c.args.waiting.now c.requires.is).is.some

pub returns : goal.returns
returns c = all-named c.args.self.now _ c.args.waiting.now _ (top _ _ c.requires.is) (ap (list_all is_legal) (sym c.as_slice.ensures) ∙ c.are_legal.ensures) c.requires.few c.in_ok-name_all.ensures.waiting refl c.in_ok-name_all.ensures.steps
