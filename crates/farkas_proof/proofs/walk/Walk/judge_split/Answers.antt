use Rattle.std.proofs.Common.{◌≡◌, ◌∙◌, ◌&&◌, ap, sym, true, rules}
use Rattle.lin_atoms.specs.Denial.{lit_fits}
use Rattle.lin_atoms.specs.Linear.{Linear}
use Rattle.lin_atoms.specs.declared.lit.Lit.TheVariants.{Le}
use Rattle.refutation_trees.specs.Combination.{one_minus}
use Rattle.farkas_proof.specs.machinery.Walk.{after, opened}
use Rattle.farkas_proof.proofs.WalkLemmas.{split-leads}
use Rattle.farkas_proof.proofs.walk.Walk.judge_split.Goals as goal

pub returns-in_ok-next-in-Ok-clause-on : goal.returns-in_ok-next-in-Ok-clause-on
returns-in_ok-next-in-Ok-clause-on c =
    let self = c.args.self.now in
    let then = c.wait.new.self in
    let known = c.in-Ok.ensures in
    let low : lit_fits (Le c.args.lin.now) ≡ true = search rules in
    let room : (lit_fits (Le c.args.lin.now) && lit_fits (Le (one_minus c.args.lin.now))) ≡ true = ap (λ b. b && lit_fits (Le (one_minus c.args.lin.now))) low ∙ known.1 in
    split-leads self.end then.end c.args.low_sub.now c.args.high_sub.now c.args.lin.now self.lits then.lits (Le c.in_ok-low-in-Ok.low) c.in-Ok.high
    (opened self.cases.items) (opened then.cases.items) self.at then.at (after self) (after then) _
    room (ap (λ (l : Linear). Le l) c.in_ok-low-in-Ok.ensures) known.2 c.wait.ensures.end c.wait.ensures.lits (ap (λ v. opened v.items) c.wait.ensures.cases) c.wait.ensures.at c.in_ok-wait-in-Ok.ensures.after
    ∙ sym c.in_ok-next-in-Ok.ensures.found
