use Rattle.std.proofs.Common.{rules, ◌≡◌, List, length, true, sym, subst}
use Rattle.std.specs.Prelude.{IsErrOf}
use Rattle.std.specs.List.{list_all}
use Rattle.std.proofs.Common.{Bor}
use Rattle.term_tree.specs.declared.sort.Sort.{Sort}
use Rattle.lin_atoms.specs.declared.lit.Lit.{Lit}
use Rattle.cube_forms.specs.Cubes.{cube_is_below}
use Rattle.interpretations.specs.declared.stop.DefinitionStop.TheVariants.{Full}
use Rattle.interpretations.specs.Kept.{AreKept}
use Rattle.interpretations.specs.machinery.Cubes.{cubes_of}
use Rattle.interpretations.proofs.DefinitionLemmas.{definition-large, definition-made}
use Rattle.interpretations.proofs.KeptLemmas.{kept-below}
use Rattle.interpretations.proofs.defining.definition.Goals as goal

pub defining_term-requires : goal.defining_term-requires
defining_term-requires c =
    let places = length c.args.pred.now.args in
    let below = kept-below c.args.frames.now.lemmas c.args.number c.args.level (cubes_of c.in_ok-kept.kept.items) places c.in_ok-kept.ensures c.requires.places in
    subst (λ (ss : List Sort). list_all (cube_is_below (length ss)) (cubes_of c.as_slice.result.now) ≡ true) (sym c.as_slice-sorts.ensures)
    (subst (λ (ks : List (Bor (List Lit))). list_all (cube_is_below places) (cubes_of ks) ≡ true) (sym c.as_slice.ensures.value) below)

pub returns-in_err-body-clause-full : goal.returns-in_err-body-clause-full
returns-in_err-body-clause-full c = λ h.
    let kept = subst (λ (ks : List (Bor (List Lit))). AreKept c.args.frames.now.lemmas c.args.number c.args.level (cubes_of ks)) (sym c.as_slice.ensures.value) c.in_ok-kept.ensures in
    let told : IsErrOf c.defining_term.result Full = search rules in
    definition-large c.args.frames.now.lemmas c.args.level c.args.number (cubes_of c.as_slice.result.now) c.new-terms.result.nodes c.new-terms.ensures.nodes kept (c.defining_term.ensures.full told)

pub returns-clause-made : goal.returns-clause-made
returns-clause-made c =
    let kept = subst (λ (ks : List (Bor (List Lit))). AreKept c.args.frames.now.lemmas c.args.number c.args.level (cubes_of ks)) (sym c.as_slice.ensures.value) c.in_ok-kept.ensures in
    definition-made c.args.frames.now.lemmas c.args.level c.args.number c.args.pred.now c.as_slice-sorts.result.now c.in_ok-params.params (cubes_of c.as_slice.result.now) _ _ c.in_ok-body.body
    c.as_slice-sorts.ensures c.in_ok-params.ensures kept c.arena_law.ensures.arena c.in_ok-body.ensures.added
