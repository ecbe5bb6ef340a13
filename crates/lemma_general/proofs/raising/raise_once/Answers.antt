use Rattle.std.proofs.Common.{◌+◌, List, Some, None, refl, subst}
use Rattle.lin_atoms.specs.declared.lit.Lit.{Lit}
use Rattle.lemma_general.specs.machinery.Passes.{IsShownOf}
use Rattle.lemma_general.proofs.TakeLemmas.{at-top, level-above, level-below, not-raised, raised-once}
use Rattle.lemma_general.proofs.raising.raise_once.Goals as goal

pub returns-then-part-lent : goal.returns-then-part-lent
returns-then-part-lent c = at-top c.args.lent.now c.args.nodes c.args.part.now c.requires.learnt (level-above _ c.args.lent.now (c.args.part.now).level c.lent.view_is c.if-part-lent.true)

pub returns-in-Some : goal.returns-in-Some
returns-in-Some c =
    let old = c.args.part.now in
    let shown = subst (IsShownOf c.args.lent.now old.pred c.cube.result.now old.level c.args.nodes) c.in-Some.is c.in_ok-shown.ensures in
    raised-once c.args.lent.now c.args.nodes (old.level + 1) old c.in-Some.proofs c.requires.goes_on c.requires.learnt (level-below _ c.args.lent.now old.level c.lent.view_is c.if-part-lent.false) refl
    (subst (λ (cube : List Lit). IsShownOf c.args.lent.now old.pred cube old.level c.args.nodes (Some c.in-Some.proofs)) c.cube.ensures shown)

pub returns-in-None : goal.returns-in-None
returns-in-None c =
    let old = c.args.part.now in
    let against = subst (IsShownOf c.args.lent.now old.pred c.cube.result.now old.level c.args.nodes) c.in-None.is c.in_ok-shown.ensures in
    not-raised c.args.lent.now c.args.nodes old (subst (λ (cube : List Lit). IsShownOf c.args.lent.now old.pred cube old.level c.args.nodes None) c.cube.ensures against)
