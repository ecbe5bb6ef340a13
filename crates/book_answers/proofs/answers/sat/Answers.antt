use Rattle.std.proofs.Common.{◌≤◌, length, ap, sym, refl, ◌∙◌, arith}
use Rattle.chc_core.specs.Views.{state_of}
use Rattle.book_answers.proofs.TextLemmas.{made-of, places-of, preds-count}
use Rattle.book_answers.proofs.answers.sat.Goals as goal

pub solution-requires-clause-few : goal.solution-requires-clause-few
solution-requires-clause-few c =
    let few : length c.args.checked.now.script.preds ≤ 4096 = c.requires.of.legal.few_preds in
    omega (arith, few, ap length c.as_slice-preds.ensures)

pub solution-requires-clause-preds : goal.solution-requires-clause-preds
solution-requires-clause-preds c = ap length c.as_slice-preds.ensures ∙ preds-count c.args.checked.now c.args.book.now c.requires.of ∙ sym c.frames-frames.ensures.preds

pub solution-requires-clause-places : goal.solution-requires-clause-places
solution-requires-clause-places c =
    let b = c.args.book.now in
    places-of c.args.checked.now.script.preds c.as_slice-preds.result.now b.frames c.frames-frames.result.now c.as_slice-preds.ensures c.frames-frames.ensures.is
    (c.lemmas_of_books_have_places.ensures c.args.checked.now b.system (state_of b) b.frames.lemmas c.requires.of.system refl c.replay_law.ensures.over)

pub returns-in-Ok : goal.returns-in-Ok
returns-in-Ok c =
    let b = c.args.book.now in
    let checked = c.args.checked.now in
    let made = made-of checked.script.preds c.as_slice-preds.result.now b.frames c.frames-frames.result.now c.args.level c.in-Ok.made c.as_slice-preds.ensures c.frames-frames.ensures.is c.in-Ok.ensures.made in (
      c.in-Ok.made,
      refl,
      made,
      c.sat_ends_solve_the_script.ensures checked b.system (state_of b) b.frames.lemmas c.args.level c.in-Ok.made c.requires.of.arena c.requires.of.legal c.requires.of.system refl c.replay_law.ensures.sound
          c.requires.ended made,
    )
