use Rattle.std.proofs.Common.{length, Some, None, refl, ap, ◌∙◌}
use Rattle.std.proofs.lemmas.Option.{slice_get_past, slice_get_read}
use Rattle.cube_forms.specs.Cubes.{cube_is_below}
use Rattle.lemma_general.proofs.PartLemmas.{over-told}
use Rattle.lemma_general.proofs.trying.is_over.Goals as goal

pub returns-in-Some : goal.returns-in-Some
returns-in-Some c =
    let found = c.in-Some.ensures.lookup in
    let there = rw c.preds.ensures.is at (slice_get_read c.preds.result.now (length c.preds.result.now) c.args.pred c.in-Some.sorts.now refl found.3.0 found.1) in
    c.is_below.ensures ∙ ap (λ n. cube_is_below n c.args.cube.now) c.len.ensures ∙ over-told c.args.sys.now.preds c.args.pred (Some c.in-Some.sorts.now) (λ n. cube_is_below n c.args.cube.now) there

pub returns-in-None : goal.returns-in-None
returns-in-None c = over-told c.args.sys.now.preds c.args.pred None (λ n. cube_is_below n c.args.cube.now) (rw c.preds.ensures.is at (slice_get_past c.preds.result.now c.args.pred c.in-None.ensures.lookup.3))
