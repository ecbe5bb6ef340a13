use Rattle.std.proofs.Common.{◌≡◌, ℕ, ◌+◌, [], ◌∷◌, ◌++◌, length, true, ap, arith, refl, subst, sym, ◌∙◌}
use Rattle.book_rules.specs.Effects.{after}
use Rattle.book_rules.specs.Legal.{IsLegal}
use Rattle.book_rules.specs.Places.{has_places}
use Rattle.clause_form.specs.System.{Clauses}
use Rattle.step_rules.specs.Taken.{IsMadeFor, step_of}
use Rattle.chc_core.specs.Contents.{Contents}
use Rattle.chc_core.specs.Views.{state_of}
use Rattle.shared_book.specs.Locks.{Behind, released_by}
use Rattle.shared_book.proofs.LockLemmas.{on-err, same-behind}
use Rattle.shared_book.proofs.RunLemmas.{longer, run-claims, run-step}
use Rattle.shared_book.proofs.locked.Locked.commit.Goals as goal

pub commit_released-requires-clause-last : goal.commit_released-requires-clause-last
commit_released-requires-clause-last g c =
    let last = c.args.share.now.last in
    let most = c.args.share.now.most in
    omega (arith, last, most)

pub commit_released-requires-clause-made : goal.commit_released-requires-clause-made
commit_released-requires-clause-made g c = subst (λ (sys : Clauses). IsMadeFor sys c.args.step) (sym c.self.invariant.0.system) c.requires.made

pub commit_released-requires-clause-places : goal.commit_released-requires-clause-places
commit_released-requires-clause-places g c = subst (λ (sys : Clauses). has_places sys (step_of c.args.step) ≡ true) (sym c.self.invariant.0.system) c.requires.places

pub invariant_of-self : goal.invariant_of-self
invariant_of-self g c =
    let err = c.in_err-number.ensures.err in
    (run-claims _ _ _ _ c.self.inside.book c.commit_released.new.book _ err c.self.invariant.0, c.self.invariant.1 ∙ ap (λ (b : Contents). length b.journal) (sym err))

pub invariant_of-self-2 : goal.invariant_of-self-2
invariant_of-self-2 g c =
    let done = c.in_ok-number.ensures in
    let share = c.args.share.now in
    let more = longer c.self.inside.book c.commit_released.new.book _ done.journal in
    let run = run-step _ _ _ _ share.worker c.self.inside.book c.commit_released.new.book c.args.step c.self.invariant.0 done.state done.system done.given done.journal
    (record { first = share.first; last = share.last; counts = c.requires.counts }) c.requires.thin in
    (run, c.add.ensures.total ∙ ap (λ (n : ℕ). n + 1) (c.audit.ensures.total ∙ c.self.invariant.1) ∙ sym more)

pub returns-clause-number : goal.returns-clause-number
returns-clause-number g c = c.in_ok-number.ensures.number ∙ ap (λ (l : Behind). length l.book.journal + 1) c.self.view_is

pub returns-clause-legal : goal.returns-clause-legal
returns-clause-legal g c =
    let named = subst (λ (sys : Clauses). IsLegal sys (state_of c.self.inside.book) (step_of c.args.step)) c.self.invariant.0.system c.in_ok-number.ensures.legal in
    subst (λ (l : Behind). IsLegal _ (state_of l.book) (step_of c.args.step)) c.self.view_is named

pub returns-clause-state : goal.returns-clause-state
returns-clause-state g c =
    c.in_ok-number.ensures.state ∙ ap (λ (sys : Clauses). after sys (state_of c.self.inside.book) (step_of c.args.step)) c.self.invariant.0.system ∙ ap (λ (l : Behind). after g.R.Run.system (state_of l.book) (step_of c.args.step)) c.self.view_is

pub returns-clause-journal : goal.returns-clause-journal
returns-clause-journal g c = c.in_ok-number.ensures.journal ∙ ap (λ (l : Behind). l.book.journal ++ (record { worker = c.args.share.now.worker; step = c.args.step }) ∷ []) c.self.view_is

pub returns-clause-claims : goal.returns-clause-claims
returns-clause-claims g c = c.in_ok-number.ensures.claims ∙ ap (λ (l : Behind). (released_by c.args.share.now.worker l.book).tree.claims) c.self.view_is

pub returns-in_err-number-clause-err : goal.returns-in_err-number-clause-err
returns-in_err-number-clause-err g c =
    on-err c.from_residual.result
    (same-behind c.commit_released.new.book (released_by c.args.share.now.worker c.self.inside.book) c.self.inside.noted _ _ c.in_err-number.ensures.err refl
    ∙ ap (λ (l : Behind). record l { book = released_by c.args.share.now.worker l.book }) c.self.view_is)
