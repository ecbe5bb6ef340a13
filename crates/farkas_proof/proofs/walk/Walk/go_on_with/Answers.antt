use Rattle.std.proofs.Common.{◌++◌, ◌∙◌, ap, sym, ℕ}
use Rattle.lin_atoms.specs.Denial.{lit_fits}
use Rattle.refutation_trees.specs.Refutation.{followed_by, judged_at}
use Rattle.farkas_proof.specs.machinery.Walk.{after, opened}
use Rattle.farkas_proof.proofs.WalkLemmas.{with-more}
use Rattle.farkas_proof.proofs.walk.Walk.go_on_with.Goals as goal

pub returns-clause-found : goal.returns-clause-found
returns-clause-found c =
    let self = c.args.self.now in
    let cases = opened self.cases.items in
    with-more self.end c.args.tree.now self.work.items c.forget.new.waiting.items self.lits c.args.derived.items c.push_all.new.self cases c.in_ok-self.field-0
    (λ n. c.in_ok-forget.ensures.after self.end self.lits c.args.derived.items cases n (sym c.len.ensures)) c.in_ok-push_all.ensures
    ∙ ap (λ (n : ℕ). followed_by (judged_at lit_fits self.end c.args.tree.now (self.lits ++ c.args.derived.items) cases n) (after self)) c.in_ok-self.ensures
