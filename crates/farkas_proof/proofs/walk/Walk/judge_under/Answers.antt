use Rattle.std.proofs.Common.{◌∷◌, [], subst, sym}
use Rattle.refutation_trees.specs.Refutation.{Finding}
use Rattle.farkas_proof.specs.machinery.Walk.{Leads, found, opened}
use Rattle.farkas_proof.proofs.WalkLemmas.{with-more}
use Rattle.farkas_proof.proofs.walk.Walk.judge_under.Goals as goal

pub returns-clause-leads : goal.returns-clause-leads
returns-clause-leads c =
    let self = c.args.self.now in
    let cases = opened self.cases.items in
    subst (λ (f : Finding). Leads f (found c.judge_tree.new.self) c.judge_tree.result)
    (with-more self.end c.args.tree.now self.work.items c.forget.new.waiting.items self.lits (c.args.lit ∷ []) c.push.new.self cases self.at
    (λ n. c.in_ok-forget.ensures.after self.end self.lits (c.args.lit ∷ []) cases n (sym c.len.ensures)) c.in_ok-push.ensures)
    c.judge_tree.ensures.leads
