use Rattle.std.proofs.Common.{ap, sym, ◌∙◌}
use Rattle.std.specs.List.{list_all}
use Rattle.lin_atoms.specs.Truth.{truth}
use Rattle.lin_atoms.proofs.Public.{truth-And}
use Rattle.chc_checker.proofs.LinkLemmas.{all-get}
use Rattle.chc_checker.proofs.bounds.+mark.Goals as goal

pub mark-returns-in-And : goal.mark-returns-in-And
mark-returns-in-And t c = λ point h within. c.mark_all.ensures point (ap (list_all (truth point)) c.as_slice.ensures ∙ sym (truth-And point c.in-And.parts) ∙ sym (ap (truth point) c.in-And.is) ∙ h) within

pub mark_all-loop-part-preserved : goal.mark_all-loop-part-preserved
mark_all-loop-part-preserved t c = λ point h within.
    c.mark.ensures point (all-get (truth point) c.args.parts.now c.loop-part.part-index c.part-item.result c.loop-part-test.true c.part-item.is h) (c.loop-part.invariant point h within)
