use Rattle.std.proofs.Common.{◌≡◌, ◌+◌, map, ap, sym, subst, ◌∙◌}
use Rattle.derivations.specs.Facts.{greatest, heights, height_of}
use Rattle.derivations.proofs.NoteLemmas.{noted_push}
use Rattle.derivations.proofs.notes.Notes.add.Goals as goal

pub invariant_of-self-2 : goal.invariant_of-self-2
invariant_of-self-2 c =
    let rs = c.self.inside.table in
    let h = c.height_over-height.result in
    let ps = c.args.fact.premises in
    let is : h ≡ 1 + greatest (map (height_of (map (λ r. r.fact) rs)) ps) =
    subst (λ fs. h ≡ 1 + greatest (map (height_of fs) ps)) (sym c.self.view_is) (c.height_over-height.ensures ∙ ap (λ xs. 1 + greatest (map (height_of c.args.self.now) xs)) c.as_slice.ensures) in
    subst (λ t. map (λ r. r.height) t ≡ heights (map (λ r. r.fact) t)) (sym c.in_ok-push.ensures.ok) (noted_push rs c.args.fact h c.self.invariant is)
