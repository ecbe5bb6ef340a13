use Rattle.std.proofs.Common.{◌++◌, List, ℕ, refl, ap, ◌∙◌, decimal}
use Rattle.std.proofs.lemmas.List.{take_all}
use Rattle.answer_text.specs.Names.{after_spaces}
use Rattle.answer_text.proofs.PushLemmas.{one_more_spaced}
use Rattle.answer_text.proofs.pieces.push_more_numerals.Goals as goal

pub loop-number-preserved : goal.loop-number-preserved
loop-number-preserved c =
    one_more_spaced decimal c.args.numbers.now c.loop-number.number-index _ _ c.args.out.now.items _ _ _ c.loop-number-test.true refl c.loop-number.invariant c.in_ok-extend_from_slice.ensures.items c.in_ok-push_numeral.ensures

pub returns : goal.returns
returns c = c.loop-number.invariant ∙ ap (λ (xs : List ℕ). c.args.out.now.items ++ after_spaces decimal xs) (take_all c.loop-number.number-index c.args.numbers.now c.loop-number-test.false)
