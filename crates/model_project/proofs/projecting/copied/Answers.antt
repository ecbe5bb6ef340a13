use Rattle.std.proofs.Common.{◌≡◌, List, [], ◌∷◌, ◌++◌, get_or, take, ap, sym, ◌∙◌}
use Rattle.std.proofs.lemmas.List.{take_all, take_more}
use Rattle.lin_atoms.specs.declared.lit.Lit.{Lit}
use Rattle.model_project.proofs.projecting.copied.Goals as goal

pub loop-lit-preserved : goal.loop-lit-preserved
loop-lit-preserved c =
    let lits = c.args.lits.now in
    let i = c.loop-lit.lit-index in
    let copy = c.in_ok-copy.field-0 in
    let pushed : c.push.new.self ≡ c.loop-lit.made ++ copy ∷ [] = c.in_ok-push.ensures.ok in
    let here : copy ≡ get_or lits i _ = c.in_ok-copy.ensures ∙ c.lit-item.is in
    pushed ∙ ap (λ (xs : List Lit). xs ++ copy ∷ []) c.loop-lit.invariant ∙ ap (λ (x : Lit). take i lits ++ x ∷ []) here ∙ sym (take_more lits i _ c.loop-lit-test.true)

pub returns : goal.returns
returns c = c.loop-lit.invariant ∙ take_all c.loop-lit.lit-index c.args.lits.now c.loop-lit-test.false
