use Rattle.std.proofs.Common.{ℕ, ◌-◌, List, [], length, take, drop, ap, sym, ◌∙◌, arith}
use Rattle.std.specs.Prelude.{Ok, Result}
use Rattle.term_tree.specs.declared.scalar.Value.{Value}
use Rattle.answer_text.specs.Reading.{◌>>=◌, read_each, value}
use Rattle.answer_text.proofs.EachLemmas.{first_and_rest, fails, applied_is}
use Rattle.answer_text.proofs.steps.applied.Goals as goal

pub returns-in_ok-values-in-len1-up : goal.returns-in_ok-values-in-len1-up
returns-in_ok-values-in-len1-up c =
    let text = c.args.text.now in
    let args = take (length c.args.trees.now - 1) (drop 1 c.args.trees.now) in
    let parts = first_and_rest c.args.trees.now c.name-item.result (omega (arith, c.in-len1-up.len_at_least)) c.name-item.is in
    let all = applied_is text c.args.declared.now c.args.start c.args.trees.now args c.name-item.result c.in_ok-number-in-len1-up.number parts c.in_ok-number-in-len1-up.ensures.number (sym c.with_values.ensures ∙ c.if-not-with_values.false) in
    all ∙ ap (λ (r : Result (List Value) ℕ). r >>= λ values. Ok (c.in_ok-number-in-len1-up.number, values)) c.in_ok-values-in-len1-up.ensures

pub returns-in_err-values-in-len1-up : goal.returns-in_err-values-in-len1-up
returns-in_err-values-in-len1-up c =
    let text = c.args.text.now in
    let args = take (length c.args.trees.now - 1) (drop 1 c.args.trees.now) in
    let parts = first_and_rest c.args.trees.now c.name-item.result (omega (arith, c.in-len1-up.len_at_least)) c.name-item.is in
    let all = applied_is text c.args.declared.now c.args.start c.args.trees.now args c.name-item.result c.in_ok-number-in-len1-up.number parts c.in_ok-number-in-len1-up.ensures.number (sym c.with_values.ensures ∙ c.if-not-with_values.false) in
    fails (read_each (value text) [] args) _ _ c.in_err-values-in-len1-up.field-0.0 _ all c.in_err-values-in-len1-up.ensures c.from_residual-in_err-values-in-len1-up.ensures.1
