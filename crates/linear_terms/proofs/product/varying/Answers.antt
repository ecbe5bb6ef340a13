use Rattle.std.proofs.Common.{sym, ◌∙◌, [], true, false}
use Rattle.std.specs.Prelude.{pos}
use Rattle.lin_atoms.specs.Linear.{Linear}
use Rattle.linear_terms.proofs.NarrowLemmas.{varying_at, varying_past, some_at}
use Rattle.linear_terms.proofs.product.varying.Goals as goal

abbrev none : Linear
none = record { terms = []; constant = pos 0 }

pub returns-then-i-forms-clause-none : goal.returns-then-i-forms-clause-none
returns-then-i-forms-clause-none c = sym c.loop-i.invariant ∙ varying_past c.args.constants.now c.args.forms.now c.loop-i.i c.if-i-forms.true

pub returns-then-varies-clause-some : goal.returns-then-varies-clause-some
returns-then-varies-clause-some c =
    sym c.loop-i.invariant ∙ varying_at c.args.constants.now c.args.forms.now c.loop-i.i _ none c.loop-i-test.true c.if-i-forms.false true (sym c.varies.ensures ∙ c.if-varies.true)
    ∙ some_at c.args.forms.now c.loop-i.i none c.if-i-forms.false

pub loop-i-preserved : goal.loop-i-preserved
loop-i-preserved c =
    sym (varying_at c.args.constants.now c.args.forms.now c.loop-i.i _ none c.loop-i-test.true c.if-i-forms.false false (sym c.varies.ensures ∙ c.if-varies.false)) ∙ c.loop-i.invariant
