use Rattle.std.proofs.Common.{◌≡◌, None, length, arith, ap, subst, sym, ◌∙◌, false}
use Rattle.std.specs.Prelude.{IfSome}
use Rattle.book_rules.specs.Legal.{end}
use Rattle.chc_core.specs.Contents.{Contents}
use Rattle.chc_core.specs.Views.{state_of}
use Rattle.search_strategy.specs.Jobs.{IsFirst}
use Rattle.shared_book.specs.Jobs.{AreHeld, Asked, IsFree}
use Rattle.shared_book.specs.Locks.{Behind, claimed_by}
use Rattle.shared_book.specs.Runs.{IsRunBook}
use Rattle.shared_book.proofs.LockLemmas.{long-enough, on-err, same-behind, some-map}
use Rattle.shared_book.proofs.RunLemmas.{run-claims}
use Rattle.shared_book.proofs.locked.Locked.next_job.Goals as goal

pub job_of-requires-clause-last : goal.job_of-requires-clause-last
job_of-requires-clause-last g c =
    let last = c.args.share.now.last in
    let most = c.args.share.now.most in
    omega (arith, last, most)

pub job_of-requires-clause-system : goal.job_of-requires-clause-system
job_of-requires-clause-system g c = c.self.invariant.0.system

pub job_of-requires-clause-few : goal.job_of-requires-clause-few
job_of-requires-clause-few g c = c.self.invariant.0.few

pub job_of-requires-clause-goes_on : goal.job_of-requires-clause-goes_on
job_of-requires-clause-goes_on g c = c.in_ok-may_ask.ensures.ok.0

pub job_of-requires-clause-thin : goal.job_of-requires-clause-thin
job_of-requires-clause-thin g c = c.self.invariant.0.thin

pub invariant_of-self : goal.invariant_of-self
invariant_of-self g c =
    let err = c.in_err-answer.ensures.err in
    (subst (IsRunBook _ _ _ _) (sym err) c.self.invariant.0, c.audit.ensures.total ∙ c.self.invariant.1 ∙ ap (λ (b : Contents). length b.journal) (sym err))

pub invariant_of-self-2 : goal.invariant_of-self-2
invariant_of-self-2 g c =
    let kept = c.in_ok-answer.ensures.kept in
    (run-claims _ _ _ _ c.self.inside.book c.job_of.new.book _ kept c.self.invariant.0, c.audit.ensures.total ∙ c.self.invariant.1 ∙ ap (λ (b : Contents). length b.journal) (sym kept))

pub returns-in_err-answer-clause-err : goal.returns-in_err-answer-clause-err
returns-in_err-answer-clause-err g c =
    on-err c.from_residual-in_err-answer.result
    (same-behind c.job_of.new.book c.self.inside.book c.self.inside.noted c.audit.new.self.total c.self.inside.written.total c.in_err-answer.ensures.err c.audit.ensures.total ∙ c.self.view_is)

pub returns-clause-asked : goal.returns-clause-asked
returns-clause-asked g c = subst (λ (l : Behind). (end (state_of l.book) ≡ None) × (l.noted ≡ false)) c.self.view_is c.in_ok-may_ask.ensures.ok

pub returns-clause-none : goal.returns-clause-none
returns-clause-none g c = subst (λ (l : Behind). c.in_ok-answer.answer ≡ None → AreHeld l.book c.args.share.now.worker) c.self.view_is c.in_ok-answer.ensures.none

pub returns-clause-unclaimed : goal.returns-clause-unclaimed
returns-clause-unclaimed g c = λ isnt. same-behind c.job_of.new.book c.self.inside.book c.self.inside.noted _ _ (c.in_ok-answer.ensures.unclaimed isnt) c.audit.ensures.total ∙ c.self.view_is

pub returns-clause-first : goal.returns-clause-first
returns-clause-first g c =
    subst (λ (l : Behind). IfSome c.in_ok-answer.answer (λ (job : Asked). IsFirst l.book.tree.nodes (IsFree l.book c.args.share.now.worker) job.obligation)) c.self.view_is c.in_ok-answer.ensures.first

pub returns-clause-snapshot : goal.returns-clause-snapshot
returns-clause-snapshot g c = subst (λ (l : Behind). IfSome c.in_ok-answer.answer (λ (job : Asked). job.snapshot ≡ l.book)) c.self.view_is c.in_ok-answer.ensures.snapshot

pub returns-clause-claimed : goal.returns-clause-claimed
returns-clause-claimed g c =
    some-map c.in_ok-answer.answer c.in_ok-answer.ensures.claimed (λ (job : Asked) is.
    same-behind c.job_of.new.book (claimed_by job.obligation c.args.share.now.worker c.self.inside.book) c.self.inside.noted _ _ is c.audit.ensures.total
    ∙ ap (λ (l : Behind). record l { book = claimed_by job.obligation c.args.share.now.worker l.book }) c.self.view_is)

pub returns-clause-length : goal.returns-clause-length
returns-clause-length g c =
    some-map c.in_ok-answer.answer c.in_ok-answer.ensures.snapshot (λ (job : Asked) is.
    long-enough c.args.share.now.count c.args.share.now.token.amount c.self.inside.written.total c.self.inside.book job c.args.share.now.counted c.audit.ensures.bound c.self.invariant.1 is)
