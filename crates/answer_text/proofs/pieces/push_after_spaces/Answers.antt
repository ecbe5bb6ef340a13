use Rattle.std.proofs.Common.{◌++◌, List, refl, ap, ◌∙◌}
use Rattle.std.proofs.lemmas.List.{take_all}
use Rattle.term_tree.specs.declared.scalar.Value.{Value}
use Rattle.answer_text.specs.Names.{value_text, after_spaces}
use Rattle.answer_text.proofs.PushLemmas.{one_more_spaced}
use Rattle.answer_text.proofs.pieces.push_after_spaces.Goals as goal

pub loop-value-preserved : goal.loop-value-preserved
loop-value-preserved c =
    one_more_spaced value_text c.args.values.now c.loop-value.value-index _ _ c.args.out.now.items _ _ _ c.loop-value-test.true refl c.loop-value.invariant c.in_ok-extend_from_slice.ensures.items c.in_ok-push_value.ensures

pub returns : goal.returns
returns c = c.loop-value.invariant ∙ ap (λ (xs : List Value). c.args.out.now.items ++ after_spaces value_text xs) (take_all c.loop-value.value-index c.args.values.now c.loop-value-test.false)
