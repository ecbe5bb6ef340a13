use Rattle.std.proofs.Common.{ℕ, [], ◌∷◌, ◌++◌, ap, ◌∙◌}
use Rattle.lin_atoms.specs.declared.lit.Lit.{Lit}
use Rattle.lia_stack.specs.declared.waiting.LeftOut.{LeftOut}
use Rattle.lia_stack.proofs.StepLemmas.{left-all, left-more}
use Rattle.lia_stack.proofs.beginning.left_out.Goals as goal

pub left-preserved : goal.left-preserved
left-preserved c =
    let lit = c.index-lits-at.result in
    let one : Lit → ℕ → LeftOut = λ l n. record { lit = l; number = n } in
    left-more c.args.lits.now lit c.left.at c.left.made c.push.new.self _ c.left-test.true c.index-lits-at.is c.left.invariant
    (c.in_ok-push.ensures.ok ∙ ap (λ (l : Lit). c.left.made ++ one l c.in_ok-numbered.field-0 ∷ []) c.in_ok-copy.ensures ∙ ap (λ (n : ℕ). c.left.made ++ one lit n ∷ []) c.in_ok-numbered.ensures)

pub returns : goal.returns
returns c = left-all c.args.lits.now c.left.at c.left.made _ c.left-test.false c.left.invariant
