use Rattle.std.proofs.Common.{◌≡◌, ap, sym, ◌∙◌, subst}
use Rattle.lin_atoms.specs.Denial.{lit_fits}
use Rattle.refutation_trees.specs.Refutation.{Finding, followed_by, judged_at}
use Rattle.refutation_trees.specs.declared.tree.Refutation.{Refutation}
use Rattle.refutation_trees.specs.declared.tree.Refutation.TheVariants.{Cases}
use Rattle.farkas_proof.specs.machinery.Walk.{GoesOn, after, opened}
use Rattle.farkas_proof.proofs.WalkLemmas.{judged-Cases}
use Rattle.farkas_proof.proofs.walk.Walk.judge_node.Goals as goal

pub returns-in-Cases-clause-on : goal.returns-in-Cases-clause-on
returns-in-Cases-clause-on c =
    let self = c.args.self.now in
    let which = c.in-Cases.which in
    let subs = c.as_slice-in-Cases.result.now in
    let cases = opened self.cases.items in
    let same : c.args.tree.now ≡ Cases which subs = c.in-Cases.is ∙ ap (Cases which) (sym c.as_slice-in-Cases.ensures) in
    let node = ap (λ (t : Refutation). judged_at lit_fits self.end t self.lits cases self.at) same ∙ judged-Cases self.end which subs self.lits cases self.at in
    subst (λ (f : Finding). GoesOn (followed_by f (after self)) c.judge_cases.new.self c.judge_cases.result) (sym node) c.judge_cases.ensures.on
