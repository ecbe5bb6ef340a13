use Rattle.std.proofs.Common.{get_or, max, refl, ap₂, sym, ◌∙◌, arith}
use Rattle.derivations.specs.Facts.{height_of}
use Rattle.derivations.proofs.NoteLemmas.{greatest_more}
use Rattle.derivations.proofs.notes.Notes.height_over.Goals as goal

pub loop-id-preserved : goal.loop-id-preserved
loop-id-preserved c =
    let before = c.loop-id.invariant.0 in
    let bound = c.height.ensures.bound in
    let is = c.greater-most.ensures in
    let i = c.loop-id.id-index in
    (omega arith, is ∙ ap₂ max c.loop-id.invariant.1 c.height.ensures.is ∙ sym (greatest_more (height_of c.args.self.now) c.args.premises.now i (get_or c.args.premises.now i 0) c.loop-id-test.true refl))
