use Rattle.std.proofs.Common.{◌≡◌, ℕ, ◌∷◌, ◌++◌, [], List, length, refl, ap, sym, ◌∙◌, subst}
use Rattle.std.proofs.lemmas.Option.{slice_get_read}
use Rattle.lin_atoms.specs.declared.form.Form.TheViews.{And}
use Rattle.clause_index.specs.machinery.Places.{AddsAt}
use Rattle.clause_index.proofs.PlaceLemmas.{adds-case, adds-false, adds-literal, adds-parts, some-next}
use Rattle.clause_index.proofs.places.+push.Goals as goal

pub push_parts-loop-number-preserved : goal.push_parts-loop-number-preserved
push_parts-loop-number-preserved t c =
    let parts = c.args.parts.now in
    let number = c.loop-number.number in
    let part = c.index-parts-number.result in
    let longer : c.push.new.self ≡ c.args.below.now ++ number ∷ [] = c.in_ok-push.ensures.ok ∙ ap (λ (path : List ℕ). path ++ number ∷ []) c.loop-number.invariant.0 in
    let there = slice_get_read parts (length parts) number part refl c.loop-number-test.true c.index-parts-number.is in (
      c.go_back.ensures c.args.below.now number (c.in_ok-push_places.ensures.same ∙ longer),
      some-next (c.args.first ∷ c.args.second ∷ c.args.below.now) c.args.places.now c.loop-number.places c.push_places.new.places parts number part there c.loop-number.invariant.1
          (subst (λ (path : List ℕ). AddsAt (c.args.first ∷ c.args.second ∷ path) c.loop-number.places part c.push_places.new.places) longer c.in_ok-push_places.ensures.adds),
    )

pub push_places-returns-in_ok-push_parts-in-And-clause-adds : goal.push_places-returns-in_ok-push_parts-in-And-clause-adds
push_places-returns-in_ok-push_parts-in-And-clause-adds t c =
    adds-parts (c.args.first ∷ c.args.second ∷ c.args.below.now) c.args.places.now c.push_parts.new.places c.args.form.now c.as_slice.result.now
    (c.in-And.is ∙ ap And (sym c.as_slice.ensures)) c.in_ok-push_parts-in-And.ensures.adds

pub push_places-returns-in_ok-push_place-in-Or-clause-adds : goal.push_places-returns-in_ok-push_place-in-Or-clause-adds
push_places-returns-in_ok-push_place-in-Or-clause-adds t c =
    λ root leads. adds-case root c.args.form.now c.args.places.now _ c.push_place.new.places c.in-Or.field-0 c.in_ok-push_place-in-Or.ensures leads c.in-Or.is

pub push_places-returns-in_ok-push_place-in-False-clause-adds : goal.push_places-returns-in_ok-push_place-in-False-clause-adds
push_places-returns-in_ok-push_place-in-False-clause-adds t c =
    λ root leads. adds-false root c.args.form.now c.args.places.now _ c.push_place-in-False.new.places c.in_ok-push_place-in-False.ensures leads c.in-False.is

pub push_places-returns-in_ok-push_place-in-Lit-clause-adds : goal.push_places-returns-in_ok-push_place-in-Lit-clause-adds
push_places-returns-in_ok-push_place-in-Lit-clause-adds t c =
    λ root leads. adds-literal root c.args.form.now c.args.places.now _ c.push_place-in-Lit.new.places c.in-Lit.field-0 c.in_ok-push_place-in-Lit.ensures leads c.in-Lit.is
