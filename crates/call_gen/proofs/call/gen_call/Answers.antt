use Rattle.std.proofs.Common.{refl, sym, ◌∙◌, ap}
use Rattle.std.specs.Prelude.{None, Some, ℕ, ◌++◌, codes}
use Rattle.call_words.specs.declared.status.Status.{Status}
use Rattle.call_gen.proofs.CallLemmas.{only_memory, want_book, want_memory, want_part}
use Rattle.call_gen.proofs.call.gen_call.Goals as goal

pub returns-in-Err-clause-few : goal.returns-in-Err-clause-few
returns-in-Err-clause-few g c = λ four five. absurd (five (c.wanting.ensures.statuses four))

pub returns-in-Err-clause-answered : goal.returns-in-Err-clause-answered
returns-in-Err-clause-answered g c = λ zero. absurd (only_memory c.wanting.result.status Status.Answered c.wanting.ensures.statuses zero (λ e. absurd (cc)) (λ e. absurd (cc)))

pub returns-in-Err-clause-book : goal.returns-in-Err-clause-book
returns-in-Err-clause-book g c = want_book c.wanting.result.book c.wanting.ensures.book None None _

pub returns-in-Err-clause-counts : goal.returns-in-Err-clause-counts
returns-in-Err-clause-counts g c = want_book c.wanting.result.book c.wanting.ensures.book None None _

pub returns-in-Err-clause-writes_part : goal.returns-in-Err-clause-writes_part
returns-in-Err-clause-writes_part g c = λ four. want_part c.wanting.result.book c.wanting.ensures.book _ _ c.args.depth c.args.seed (c.wanting.ensures.part four)

pub returns-in-Err-clause-memory : goal.returns-in-Err-clause-memory
returns-in-Err-clause-memory g c = λ five. want_memory c.wanting.result.book c.wanting.ensures.book _ _ (c.wanting.ensures.memory five)
