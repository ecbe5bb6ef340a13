use Rattle.std.proofs.Common.{sym, ◌∙◌, subst}
use Rattle.lemma_frames.specs.Frames.{lemma_of, level_of, pred_of as pred_at}
use Rattle.lemma_general.specs.machinery.Passes.{IsPlainlyShown}
use Rattle.lemma_general.proofs.TakeLemmas.{lift-lent, plainly}
use Rattle.lemma_general.proofs.lemma_lift.lift_in.Goals as goal

pub returns-in-Some-clause-found : goal.returns-in-Some-clause-found
returns-in-Some-clause-found c =
    let fs = c.args.lent.now.frames.lemmas in
    let told = plainly c.args.lent.now (pred_at fs c.args.id) (level_of fs c.args.id) c.args.nodes (lemma_of fs c.args.id) c.in_ok-found.found c.in_ok-found.ensures.found in
    lift-lent _ c.args.lent.now c.args.id c.level_of-from.result c.in-Some.proofs c.lent.view_is c.requires.goes_on c.requires.there c.requires.below c.level_of-from.ensures
    (subst (IsPlainlyShown c.args.lent.now (pred_at fs c.args.id) (lemma_of fs c.args.id) (level_of fs c.args.id) c.args.nodes) (sym c.refuted.ensures ∙ c.in-Some.is) told)

pub returns-in-None-clause-found : goal.returns-in-None-clause-found
returns-in-None-clause-found c =
    let fs = c.args.lent.now.frames.lemmas in
    let told = plainly c.args.lent.now (pred_at fs c.args.id) (level_of fs c.args.id) c.args.nodes (lemma_of fs c.args.id) c.in_ok-found.found c.in_ok-found.ensures.found in
    subst (IsPlainlyShown c.args.lent.now (pred_at fs c.args.id) (lemma_of fs c.args.id) (level_of fs c.args.id) c.args.nodes) (sym c.refuted.ensures ∙ c.in-None.is) told
