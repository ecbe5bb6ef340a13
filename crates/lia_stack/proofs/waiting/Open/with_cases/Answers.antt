use Rattle.std.proofs.Common.{List, ℕ, ap, ◌∙◌}
use Rattle.lin_atoms.specs.declared.lit.Lit.{Lit}
use Rattle.lia_stack.specs.declared.waiting.LeftOut.{LeftOut}
use Rattle.lia_stack.specs.declared.waiting.Open.{Open}
use Rattle.lia_stack.proofs.waiting.Open.with_cases.Goals as goal

pub returns : goal.returns
returns c =
    let o = c.args.self.now in
    let made : List Lit → List ℕ → List ℕ → List LeftOut → Open = λ ls ns rs ks. record { lits = ls; numbers = ns; reasons = rs; known = o.known; left_out = ks; cases = c.args.cases } in
    let numbers = c.in_ok-copy-2.field-0 in
    let reasons = c.in_ok-copy-3.field-0 in
    let left = c.in_ok-copy-4.field-0 in
    ap (λ (ls : List Lit). made ls numbers reasons left) c.in_ok-copy.ensures
    ∙ ap (λ (ns : List ℕ). made o.lits ns reasons left) c.in_ok-copy-2.ensures
    ∙ ap (λ (rs : List ℕ). made o.lits o.numbers rs left) c.in_ok-copy-3.ensures
    ∙ ap (made o.lits o.numbers o.reasons) c.in_ok-copy-4.ensures
