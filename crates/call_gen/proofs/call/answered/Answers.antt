use Rattle.std.proofs.Common.{refl, sym, ◌∙◌, ap}
use Rattle.std.specs.Prelude.{None, Some, ℕ, ◌++◌, codes}
use Rattle.call_gen.specs.Summaries.IsMeantToSum.{summary}
use Rattle.call_words.specs.declared.status.Status.{Status}
use Rattle.call_gen.proofs.CallLemmas.{appended, not_other, part_of}
use Rattle.call_gen.proofs.call.answered.Goals as goal

pub returns-clause-few : goal.returns-clause-few
returns-clause-few g c = λ four five. (c.status_of-status.ensures.whole four).0

pub returns-clause-answered : goal.returns-clause-answered
returns-clause-answered g c = λ zero.
    record {
      b = c.args.book;
      book_is = refl;
      text = c.args.text.items;
      summary = c.requires.summary;
      held = appended c.args.text.items _ _ _ c.as_slice.ensures.value (c.status_of-status.ensures.whole (not_other c.status_of-status.result Status.Answered zero (λ e. absurd (cc)))).1;
    }

pub returns-clause-writes_part : goal.returns-clause-writes_part
returns-clause-writes_part g c = λ four.
    part_of c.args.depth c.args.seed (Some c.args.book) c.args.text.items _ _ _ (summary c.args.book refl c.requires.summary) c.as_slice.ensures.value (c.status_of-status.ensures.part four)

pub returns-clause-memory : goal.returns-clause-memory
returns-clause-memory g c = λ five.
    let zero = (c.status_of-status.ensures.whole (not_other c.status_of-status.result Status.Memory five (λ e. absurd (cc)))).0 in
    absurd (cc (zero, five))
