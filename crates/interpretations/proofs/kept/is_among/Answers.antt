use Rattle.std.proofs.Common.{sym, ◌∙◌}
use Rattle.interpretations.proofs.AmongLemmas.{among-end, among-here, among-next}
use Rattle.interpretations.proofs.kept.is_among.Goals as goal

pub loop-one-preserved : goal.loop-one-preserved
loop-one-preserved c =
    among-next c.args.lemma.now c.args.kept.now c.loop-one.one-index c.one-item.result c.loop-one-test.true c.one-item.is (sym c.same_lemma.ensures ∙ c.if-same_lemma.false) c.loop-one.invariant

pub returns-then-same_lemma : goal.returns-then-same_lemma
returns-then-same_lemma c =
    among-here c.args.lemma.now c.args.kept.now c.loop-one.one-index c.one-item.result c.loop-one-test.true c.one-item.is (sym c.same_lemma.ensures ∙ c.if-same_lemma.true) c.loop-one.invariant

pub returns : goal.returns
returns c = among-end c.args.lemma.now c.args.kept.now c.loop-one.one-index c.loop-one-test.false c.loop-one.invariant
