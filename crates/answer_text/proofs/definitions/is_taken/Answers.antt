use Rattle.std.proofs.Common.{sym, ap, ◌∙◌}
use Rattle.std.specs.Prelude.{Some}
use Rattle.std.proofs.lemmas.Option.{slice_get-get_or}
use Rattle.answer_text.proofs.PlaceLemmas.{taken}
use Rattle.answer_text.proofs.definitions.is_taken.Goals as goal

pub returns : goal.returns
returns c before preds h =
    let place = c.index-places-number.result in
    c.is_some.ensures ∙ taken before preds c.args.places.now c.args.number place h (slice_get-get_or c.args.places.now c.args.number place c.requires ∙ ap Some (sym c.index-places-number.is))
