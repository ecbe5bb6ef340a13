use Rattle.std.proofs.Common.{◌≡◌, [], ◌∷◌, ◌++◌, false, sym, ap, subst, ◌∙◌, arith, ◌<◌, length}
use Rattle.answer_text.specs.Reading.{is_defined}
use Rattle.answer_text.specs.machinery.Places.{ArePlaces}
use Rattle.answer_text.proofs.PlaceLemmas.{one_more}
use Rattle.answer_text.proofs.DefinitionLemmas.{goes}
use Rattle.answer_text.proofs.definitions.take_one.Goals as goal

pub returns-in-Ok : goal.returns-in-Ok
returns-in-Ok c before h =
    let told = c.in-Ok.ensures.told in
    let d = told.0 in
    let definition = c.in-Ok.definition in
    let preds = c.args.declared.now in
    let number = c.in_ok-number.number in
    let seen : ArePlaces before preds c.as_slice.result.now = subst (ArePlaces before preds) (sym c.as_slice.ensures.value) h in
    let new : is_defined before number ≡ false = sym (c.is_taken.ensures before preds seen) ∙ c.if-is_taken.false in
    let same : d.pred ≡ number = sym told.2.pred ∙ c.in-Ok.ensures.pred in
    let within : definition.pred < length preds = omega (arith, c.in-Ok.ensures.pred, c.in_ok-number.ensures.within) in (
      d,
      goes c.args.text.now preds before c.args.start c.args.name.now c.args.params.now c.args.sort.now c.args.term.now number c.in_ok-number.ensures.number new ∙ told.1,
      subst (ArePlaces (before ++ d ∷ []) preds) (sym c.put.ensures) (one_more before preds c.args.places.now.items d definition h within told.2 (ap (is_defined before) same ∙ new)),
    )
