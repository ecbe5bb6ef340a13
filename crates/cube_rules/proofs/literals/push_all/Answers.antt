use Rattle.std.proofs.Common.{◌++◌, ◌∷◌, [], List, ap, sym, ◌∙◌, take}
use Rattle.std.proofs.lemmas.List.{append_assoc, take_all, take_more}
use Rattle.lin_atoms.specs.declared.lit.Lit.{Lit}
use Rattle.cube_rules.proofs.literals.push_all.Goals as goal

pub loop-lit-preserved : goal.loop-lit-preserved
loop-lit-preserved c =
    let i = c.loop-lit.lit-index in
    let lits = c.args.lits.now.items in
    let more = c.args.more.now in
    c.in_ok-push.ensures.items ∙ ap (λ (xs : List Lit). xs ++ c.in_ok-lit.lit ∷ []) c.loop-lit.invariant ∙ append_assoc lits (take i more) (c.in_ok-lit.lit ∷ [])
    ∙ ap (λ (lit : Lit). lits ++ (take i more ++ lit ∷ [])) (c.in_ok-lit.ensures ∙ c.lit-item.is)
    ∙ sym (ap (λ (xs : List Lit). lits ++ xs) (take_more more i c.lit-item.result c.loop-lit-test.true))

pub returns : goal.returns
returns c = c.loop-lit.invariant ∙ ap (λ (xs : List Lit). c.args.lits.now.items ++ xs) (take_all c.loop-lit.lit-index c.args.more.now c.loop-lit-test.false)
