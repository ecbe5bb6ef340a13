use Rattle.std.proofs.Common.{◌≡◌, suc, ◌+◌, List, ℕ, [], ◌∷◌, ◌++◌, ap, arith, drop, sym, take, ◌∙◌}
use Rattle.std.proofs.lemmas.Option.{get_or_from_slice_get}
use Rattle.lin_atoms.specs.declared.lit.Lit.{Lit}
use Rattle.lia_stack.specs.declared.waiting.LeftOut.{LeftOut}
use Rattle.lia_stack.specs.declared.waiting.Open.{Open}
use Rattle.lia_stack.specs.machinery.Opened.{left_at, no_lit}
use Rattle.lia_stack.proofs.waiting.Open.take_in.Goals as goal

pub returns : goal.returns
returns c =
    let o = c.args.self.now in
    let at = c.args.at in
    let l = left_at o.left_out at in
    let made : List Lit → List ℕ → List LeftOut → Open = λ ls ns ks. record { lits = ls; numbers = ns; reasons = o.reasons; known = o.known; left_out = ks; cases = o.cases } in
    let there = sym (get_or_from_slice_get o.left_out at c.remove-lit.result (record { lit = no_lit; number = 0 }) c.remove-lit.ensures.item) in
    let next : suc at ≡ at + 1 = omega arith in
    ap (λ (ls : List Lit). made ls c.push-2.new.self c.remove-lit.new.self) (c.in_ok-push.ensures.ok ∙ ap (λ (lit : Lit). o.lits ++ lit ∷ []) (c.in_ok-copy.ensures ∙ c.get.ensures ∙ ap (λ (k : LeftOut). k.lit) there))
    ∙ ap (λ (ns : List ℕ). made (o.lits ++ l.lit ∷ []) ns c.remove-lit.new.self) (c.in_ok-push-2.ensures.ok ∙ ap (λ (k : LeftOut). o.numbers ++ k.number ∷ []) there)
    ∙ ap (made (o.lits ++ l.lit ∷ []) (o.numbers ++ l.number ∷ [])) (c.remove-lit.ensures.rest ∙ ap (λ (k : ℕ). take at o.left_out ++ drop k o.left_out) next)
