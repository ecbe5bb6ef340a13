use Rattle.std.proofs.Common.{rules, Err, ◌≡◌, ap, ◌∙◌, sym, ℕ, true}
use Rattle.std.specs.Prelude.{IsErrOf}
use Rattle.std.specs.BTreeMap.{BTreeMap}
use Rattle.term_tree.specs.declared.scalar.Value.{Value}
use Rattle.term_tree.specs.declared.evaluation.ValueStop.{ValueStop}
use Rattle.term_tree.specs.declared.evaluation.ValueStop.TheVariants.{ValueWide}
use Rattle.term_tree.specs.machinery.Walk.{has_number}
use Rattle.term_tree.proofs.EvaluationLemmas.{all_met}
use Rattle.term_tree.proofs.evaluation.value.Goals as goal

pub returns-in_err-known-clause-wide : goal.returns-in_err-known-clause-wide
returns-in_err-known-clause-wide c = λ term h.
    let same : IsErrOf {T = BTreeMap ℕ Value} {E = ValueStop} (Err c.in_err-known.field-0.0) (ValueWide term) = search rules in
    let found = c.in_err-known.ensures.wide term same in
    let items : c.as_slice.result.now ≡ c.in_ok-ids.ids.items = c.as_slice.ensures.value in
    (c.in_ok-ids.ensures.inside term.0 (ap (has_number term.0) (sym items) ∙ found.0), found.1)

pub returns-clause-fitting : goal.returns-clause-fitting
returns-clause-fitting c = λ part s wide.
    let met : has_number part c.in_ok-ids.ids.items ≡ true = all_met c.args.terms.now.nodes c.args.id.0 c.in_ok-ids.ids.items part c.in_ok-ids.ensures.closed c.in_ok-ids.ensures.top s in
    let items : c.as_slice.result.now ≡ c.in_ok-ids.ids.items = c.as_slice.ensures.value in
    c.in_ok-known.ensures.fitting part (ap (has_number part) items ∙ met) wide
