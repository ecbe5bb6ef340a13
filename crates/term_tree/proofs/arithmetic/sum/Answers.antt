use Rattle.std.proofs.Common.{◌+◌, drop, map, rules, ap, sym, ◌∙◌, to_z, of_z, FitsSigned}
use Rattle.std.specs.Prelude.{◌+ℤ◌, ℤ}
use Rattle.std.specs.Int.{w128}
use Rattle.std.proofs.lemmas.Int.{to_z-of_z}
use Rattle.term_tree.specs.Operators.{integer}
use Rattle.term_tree.specs.Width.{checked_fold}
use Rattle.term_tree.proofs.CheckedLemmas.{checked_end, checked_more, checked_stop}
use Rattle.term_tree.proofs.arithmetic.sum.Goals as goal

pub loop-value-preserved : goal.loop-value-preserved
loop-value-preserved c =
    let values = c.args.values.now in
    let i = c.loop-value.value-index in
    let next_fits : FitsSigned w128 c.in-Some.next = search rules in
    let n_fits : FitsSigned w128 c.integer.result = record { sfits = c.integer.type_inv } in
    let n : ℤ = to_z w128 (of_z w128 c.integer.result) in
    ap (λ (a : ℤ). checked_fold (λ x y. x +ℤ y) a (map integer (drop (i + 1) values))) (to_z-of_z _ _ next_fits)
    ∙ checked_more (λ x y. x +ℤ y) values i _ (to_z w128 c.loop-value.total-bits) n c.in-Some.next _ c.loop-value-test.true (to_z-of_z _ _ n_fits ∙ c.integer.ensures) (sym c.in-Some.is ∙ c.plus.ensures) c.loop-value.invariant

pub returns-in_default : goal.returns-in_default
returns-in_default c =
    let n_fits : FitsSigned w128 c.integer.result = record { sfits = c.integer.type_inv } in
    let n : ℤ = to_z w128 (of_z w128 c.integer.result) in
    checked_stop (λ x y. x +ℤ y) c.args.values.now c.loop-value.value-index _ (to_z w128 c.loop-value.total-bits) n _ c.loop-value-test.true (to_z-of_z _ _ n_fits ∙ c.integer.ensures) (sym c.in_default.is ∙ c.plus.ensures) c.loop-value.invariant

pub returns : goal.returns
returns c = checked_end (λ x y. x +ℤ y) c.args.values.now c.loop-value.value-index (to_z w128 c.loop-value.total-bits) _ c.loop-value-test.false c.loop-value.invariant
