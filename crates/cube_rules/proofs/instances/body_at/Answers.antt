use Rattle.std.proofs.Common.{◌≡◌, ◌+◌, ◌++◌, ◌∷◌, [], ℕ, List, ap, sym, ◌∙◌, map, take}
use Rattle.std.proofs.lemmas.List.{map_more, take_all}
use Rattle.clause_form.specs.declared.atom.Atom.{Atom}
use Rattle.cube_forms.specs.declared.tuple.Tuple.{Tuple}
use Rattle.book_rules.specs.Instances.{atom_at}
use Rattle.cube_rules.proofs.instances.body_at.Goals as goal

pub loop-atom-preserved : goal.loop-atom-preserved
loop-atom-preserved c =
    let i = c.loop-atom.atom-index in
    let atoms = c.as_slice-atom-items.result.now in
    let there = atom_at c.args.point.now in
    let sofar = map there (take i atoms) in
    let was : c.loop-atom.body.items ≡ sofar = c.loop-atom.invariant ∙ sym (ap (λ (xs : List Atom). map there (take i xs)) c.as_slice-atom-items.ensures) in
    c.in_ok-push.ensures.items ∙ ap (λ (xs : List (ℕ × Tuple)). xs ++ c.in_ok-pair.pair ∷ []) was
    ∙ ap (λ (one : ℕ × Tuple). sofar ++ one ∷ []) (c.in_ok-pair.ensures ∙ ap there c.atom-item.is)
    ∙ sym (map_more there atoms i c.atom-item.result c.loop-atom-test.true)
    ∙ ap (λ (xs : List Atom). map there (take (i + 1) xs)) c.as_slice-atom-items.ensures

pub returns : goal.returns
returns c =
    let i = c.loop-atom.atom-index in
    let there = atom_at c.args.point.now in
    c.loop-atom.invariant ∙ sym (ap (λ (xs : List Atom). map there (take i xs)) c.as_slice-atom-items.ensures)
    ∙ ap (map there) (take_all i c.as_slice-atom-items.result.now c.loop-atom-test.false ∙ c.as_slice-atom-items.ensures)
