use Rattle.std.proofs.Common.{sym, ap, ◌∙◌, subst, [], false, length, List, ℕ}
use Rattle.term_check.specs.Formula.{params_from}
use Rattle.term_check.specs.machinery.Known.{Known}
use Rattle.term_check.specs.machinery.Reading.{Tells}
use Rattle.term_check.specs.Spelling.{spelled, scope_of}
use Rattle.term_check.proofs.FormulaLemmas.{ready_at_first, no_lets, no_lets_below, no_formula, reader_is}
use Rattle.term_check.proofs.check.check_formula.Goals as goal

pub read_term-read-requires : goal.read_term-read-requires
read_term-read-requires c = record {
  ready = ready_at_first c.new-context.result c.args.text.now (scope_of [] (params_from 0 c.args.params.now) false) c.new-terms.result (length c.args.params.now) _
      (reader_is c.new-context.result c.args.text.now c.new-signature.result c.bind_params.new.self c.new-bindings.result c.args.params.now c.new-context.ensures c.new-signature.ensures c.in_ok-bind_params.ensures c.new-bindings.ensures)
      (no_lets 0 c.args.params.now) (no_lets_below 0 c.args.params.now) (ap (λ (xs : List ℕ). length xs) c.new-terms.ensures.offsets ∙ sym (ap (λ ns. length ns) c.new-terms.ensures.nodes)) c.requires.weight;
}

pub returns-clause-bad : goal.returns-clause-bad
returns-clause-bad c = λ offset stop.
    let is = reader_is c.new-context.result c.args.text.now c.new-signature.result c.bind_params.new.self c.new-bindings.result c.args.params.now c.new-context.ensures c.new-signature.ensures c.in_ok-bind_params.ensures c.new-bindings.ensures in
    let told = subst (λ (k : Known). Tells k.lets (spelled k.text k.scope (length c.args.params.now) c.args.tree.now) c.read_term-read.new.terms c.read_term-read.result) is c.read_term-read.ensures.told in
    no_formula _ c.read_term-read.new.terms c.in-Err.stop offset (c.in-Err.ensures c.read_term-read.new.terms _ told) stop

pub returns-in-Ok-clause-formula : goal.returns-in-Ok-clause-formula
returns-in-Ok-clause-formula c =
    let is = reader_is c.new-context.result c.args.text.now c.new-signature.result c.bind_params.new.self c.new-bindings.result c.args.params.now c.new-context.ensures c.new-signature.ensures c.in_ok-bind_params.ensures c.new-bindings.ensures in
    let told = subst (λ (k : Known). Tells k.lets (spelled k.text k.scope (length c.args.params.now) c.args.tree.now) c.read_term-read.new.terms c.read_term-read.result) is c.read_term-read.ensures.told in
    c.in-Ok.ensures c.read_term-read.new.terms _ told
