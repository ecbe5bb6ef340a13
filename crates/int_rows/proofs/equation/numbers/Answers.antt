use Rattle.std.proofs.Common.{◌++◌, ◌∷◌, [], ◌+◌, ap, sym, ◌∙◌, List, ℕ}
use Rattle.int_rows.proofs.EquationLemmas.{range-more}
use Rattle.int_rows.proofs.MadeLemmas.{same-count}
use Rattle.std.specs.List.{range_with_len}
use Rattle.int_rows.proofs.equation.numbers.Goals as goal

pub loop-i-preserved : goal.loop-i-preserved
loop-i-preserved c = c.in_ok-push.ensures.items ∙ ap (λ (made : List ℕ). made ++ (c.args.from + c.loop-i.i) ∷ []) c.loop-i.invariant ∙ sym (range-more c.args.from c.loop-i.i)

pub returns : goal.returns
returns c = c.loop-i.invariant ∙ ap (range_with_len c.args.from) (same-count c.loop-i.i c.args.count c.loop-i.auto.i-end c.loop-i-test.false)
