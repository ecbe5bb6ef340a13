use Rattle.std.proofs.Common.{refl, ap, ◌∙◌, [], true, arith}
use Rattle.term_check.specs.Spelling.{scope_of}
use Rattle.term_check.specs.Weight.{weight}
use Rattle.term_check.proofs.FormulaLemmas.{ready_at_first}
use Rattle.term_check.proofs.check.check_term.Goals as goal

pub read_term-requires : goal.read_term-requires
read_term-requires c = record {
  ready = ready_at_first c.new-context.result c.args.text.now (scope_of c.args.signature.now [] true) c.args.terms.now 0 (weight c.args.tree.now)
      (c.new-context.ensures ∙ ap (λ names. record { text = c.args.text.now; scope = scope_of c.args.signature.now names true; lets = [] }) c.new-bindings.ensures) refl refl c.requires.aligned (let w = c.requires.weight in omega (arith, w));
}
