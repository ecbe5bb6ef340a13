use Rattle.std.proofs.Common.{◌<◌, ◌≤◌, ◌∙◌, List, length, subst}
use Rattle.lin_atoms.specs.declared.lit.Lit.{Lit}
use Rattle.lemma_general.specs.Generals.{without}
use Rattle.lemma_general.specs.machinery.Passes.{IsTaken}
use Rattle.lemma_general.proofs.PassLemmas.{passed, passing-dropped, passing-first, passing-kept}
use Rattle.lemma_general.proofs.dropping.pass.Goals as goal

pub drop-init : goal.drop-init
drop-init c = passing-first c.args.lent.now c.args.nodes c.args.part.now c.args.met.now c.requires.learnt c.requires.met

pub drop-preserved-then-branch : goal.drop-preserved-then-branch
drop-preserved-then-branch c =
    let within = subst (λ (lits : List Lit). c.drop.at < length lits) (c.lits.ensures.is ∙ c.cube.ensures) c.drop-test.true in
    let taken = subst (IsTaken c.args.lent.now c.args.nodes (without c.drop.at (c.drop.part).lemma) c.drop.part c.drop_at.new.part) c.if-branch.true c.in_ok-drop_at.ensures.taken in
    passing-dropped c.args.lent.now c.args.nodes c.drop.at c.args.part.now c.drop.part c.drop_at.new.part c.drop.met c.drop_at.new.met c.drop.dropped within c.drop.invariant taken c.in_ok-drop_at.ensures.met

pub drop-preserved : goal.drop-preserved
drop-preserved c =
    let taken = subst (IsTaken c.args.lent.now c.args.nodes (without c.drop.at (c.drop.part).lemma) c.drop.part c.drop_at.new.part) c.if-branch.false c.in_ok-drop_at.ensures.taken in
    passing-kept c.args.lent.now c.args.nodes c.drop.at c.args.part.now c.drop.part c.drop_at.new.part c.drop.met c.drop_at.new.met c.drop.dropped c.drop.invariant taken c.in_ok-drop_at.ensures.met

pub returns-clause-passed : goal.returns-clause-passed
returns-clause-passed c =
    let past = subst (λ (lits : List Lit). length lits ≤ c.drop.at) (c.lits.ensures.is ∙ c.cube.ensures) c.drop-test.false in
    passed c.args.lent.now c.args.nodes c.drop.at c.args.part.now c.drop.part c.drop.met c.drop.dropped past c.drop.invariant
