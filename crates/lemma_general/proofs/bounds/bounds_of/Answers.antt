use Rattle.std.proofs.Common.{List, ◌++◌, ◌∷◌, [], ◌∙◌, ap, sym, take}
use Rattle.std.proofs.lemmas.List.{take_all}
use Rattle.lin_atoms.specs.declared.lit.Lit.{Lit}
use Rattle.lemma_general.specs.Generals.{bounds_of}
use Rattle.lemma_general.proofs.BoundLemmas.{bounds-next}
use Rattle.lemma_general.proofs.bounds.bounds_of.Goals as goal

pub loop-lit-preserved : goal.loop-lit-preserved
loop-lit-preserved c =
    let lits = c.args.lits.now in
    let i = c.loop-lit.lit-index in
    let next = bounds-next lits i c.lit-item.result c.loop-lit-test.true ∙ ap (λ (x : Lit). bounds_of (take i lits) ++ bounds_of (x ∷ [])) (sym c.lit-item.is) in
    c.in_ok-push_bounds.ensures ∙ ap (λ (xs : List Lit). xs ++ bounds_of (c.lit-item.result ∷ [])) c.loop-lit.invariant ∙ sym next

pub returns : goal.returns
returns c = c.loop-lit.invariant ∙ ap bounds_of (take_all c.loop-lit.lit-index c.args.lits.now c.loop-lit-test.false)
