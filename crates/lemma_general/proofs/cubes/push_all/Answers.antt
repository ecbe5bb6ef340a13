use Rattle.std.proofs.Common.{List, ◌++◌, ◌∷◌, [], ◌∙◌, ap, sym, take, append_assoc}
use Rattle.std.proofs.lemmas.List.{take_more}
use Rattle.lin_atoms.specs.declared.lit.Lit.{Lit}
use Rattle.lemma_general.proofs.cubes.push_all.Goals as goal

pub loop-lit-preserved : goal.loop-lit-preserved
loop-lit-preserved c =
    let lits = c.args.lits.now in
    let i = c.loop-lit.lit-index in
    let next = take_more lits i c.lit-item.result c.loop-lit-test.true ∙ ap (λ (x : Lit). take i lits ++ x ∷ []) (sym c.lit-item.is) in
    c.in_ok-push.ensures.items ∙ ap (λ (x : Lit). c.loop-lit.made.items ++ x ∷ []) c.in_ok-copy.ensures ∙ ap (λ (xs : List Lit). xs ++ c.lit-item.result ∷ []) c.loop-lit.invariant
    ∙ append_assoc c.args.made.now.items (take i lits) (c.lit-item.result ∷ []) ∙ ap (λ (xs : List Lit). c.args.made.now.items ++ xs) (sym next)
