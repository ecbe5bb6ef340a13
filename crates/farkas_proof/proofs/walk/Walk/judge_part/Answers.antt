use Rattle.std.proofs.Common.{◌++◌, ◌∙◌, ap, subst, List}
use Rattle.lin_atoms.specs.declared.lit.Lit.{Lit}
use Rattle.refutation_trees.specs.Flatten.{literals}
use Rattle.refutation_trees.specs.Refutation.{Finding}
use Rattle.farkas_proof.specs.machinery.Walk.{Leads, found, left_to, opened, replaced}
use Rattle.farkas_proof.specs.declared.walk.Work.TheVariants.{Reopen}
use Rattle.farkas_proof.proofs.WalkLemmas.{with-part}
use Rattle.farkas_proof.proofs.walk.Walk.judge_part.Goals as goal

pub returns-clause-leads : goal.returns-clause-leads
returns-clause-leads c =
    let self = c.args.self.now in
    let lits = self.lits in
    let cases = opened self.cases.items in
    let inside = opened c.replace-outside.new.dest.items in
    let is = ap (λ v. opened v.items) c.replace-outside.ensures.after ∙ c.in_ok-cases.ensures ∙ ap (λ (cs : List _). replaced (opened cs) c.args.which c.args.part.now) c.as_slice.ensures.value in
    let more = c.in_ok-push_literals.ensures ∙ ap (λ (ls : List Lit). ls ++ literals c.args.part.now) c.new-derived.ensures.items in
    subst (λ (f : Finding). Leads f (found c.judge_with.new.self) c.judge_with.result)
    (with-part self.end c.args.which c.args.tree.now c.args.part.now self.work.items c.put.new.waiting.items (Reopen c.replace-outside.result) lits c.push_literals.new.lits.items cases inside self.at
    c.in_ok-put.ensures (λ n. ap (λ v. left_to self.end self.work.items lits (opened v.items) n) c.replace-outside.ensures.value) more is)
    c.judge_with.ensures.leads
