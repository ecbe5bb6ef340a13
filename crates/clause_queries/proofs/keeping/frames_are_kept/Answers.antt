use Rattle.std.proofs.Common.{◌<◌, length, ap, sym, ◌∙◌, arith}
use Rattle.clause_queries.specs.Kept.{is_kept}
use Rattle.clause_queries.proofs.LoopLemmas.{kept-done}
use Rattle.clause_queries.proofs.keeping.frames_are_kept.Goals as goal

pub loop-id-preserved : goal.loop-id-preserved
loop-id-preserved c =
    let lemmas = c.args.frames.now.lemmas in
    let id = c.loop-id.id in
    let end = c.count-id-end.ensures in
    let less = c.loop-id-test.true in
    let within : id < length lemmas = omega arith in
    kept-done lemmas id within (ap is_kept (sym (c.cube.ensures ∙ c.lemma.ensures)) ∙ c.is_kept.ensures) c.loop-id.invariant
