use Rattle.std.proofs.Common.{map, ap, ◌∙◌}
use Rattle.std.proofs.lemmas.List.{take_all}
use Rattle.term_tree.specs.declared.sort.Sort.{Sort}
use Rattle.term_tree.specs.declared.script.Name.{Name}
use Rattle.answer_text.proofs.PushLemmas.{one_more_name}
use Rattle.answer_text.proofs.parameters.names_of.Goals as goal

pub loop-name-preserved : goal.loop-name-preserved
loop-name-preserved c =
    one_more_name c.args.params.now c.loop-name.name-index c.loop-name-item.result c.in_ok-copy.field-0 c.loop-name.names.items _ c.loop-name-test.true c.loop-name-item.is c.loop-name.invariant c.in_ok-copy.ensures c.in_ok-push.ensures.items

pub returns : goal.returns
returns c = c.from_vec.ensures ∙ c.loop-name.invariant ∙ ap (map (λ (p : Name × Sort). p.0)) (take_all c.loop-name.name-index c.args.params.now c.loop-name-test.false)
