use Rattle.std.proofs.Common.{◌≡◌, ◌+◌, [], ◌∷◌, ◌++◌, length, true, ap, sym, ◌∙◌, subst}
use Rattle.book_rules.specs.Effects.{after}
use Rattle.book_rules.specs.Legal.{IsLegal}
use Rattle.book_rules.specs.Places.{has_places}
use Rattle.step_rules.specs.Taken.{IsMadeFor, step_of}
use Rattle.chc_core.specs.Contents.{Contents}
use Rattle.chc_core.specs.Views.{state_of}
use Rattle.chc_core.specs.machinery.Books.{IsBook}
use Rattle.chc_core.proofs.BookLemmas.{kept-book, legal-step}
use Rattle.chc_core.proofs.MadeLemmas.{journal-room}
use Rattle.chc_core.proofs.book.Book.commit.Goals as goal

pub allow-requires : goal.allow-requires
allow-requires c = record {
  kept = c.self.invariant;
  places = subst (λ (b : Contents). has_places b.system (step_of c.args.step) ≡ true) (sym c.self.view_is) c.requires.places;
}

pub put-requires : goal.put-requires
put-requires c = journal-room c.self.inside.parts c.self.invariant

pub invariant_of-self : goal.invariant_of-self
invariant_of-self c = subst IsBook (sym c.in_err-put.ensures.err) c.self.invariant

pub invariant_of-self-2 : goal.invariant_of-self-2
invariant_of-self-2 c =
    let b = c.self.inside.parts in
    let places = subst (λ (x : Contents). has_places x.system (step_of c.args.step) ≡ true) (sym c.self.view_is) c.requires.places in
    let for : IsMadeFor b.system c.args.step = subst (λ (x : Contents). IsMadeFor x.system c.args.step) (sym c.self.view_is) c.requires.made in
    let legal : IsLegal b.system (state_of b) (step_of c.args.step) = legal-step b c.args.step c.in_ok-allow.ensures.ok for c.is_projected.ensures in
    subst IsBook (sym c.in_ok-put.ensures.ok) (kept-book b c.in_ok-made.made (record { worker = c.args.worker; step = c.args.step }) c.in_ok-allow.ensures.ok for legal places c.in_ok-made.ensures)

pub returns-clause-number : goal.returns-clause-number
returns-clause-number c = c.next_number-number.ensures ∙ ap (λ (b : Contents). length b.journal + 1) c.self.view_is

pub returns-clause-legal : goal.returns-clause-legal
returns-clause-legal c =
    let b = c.self.inside.parts in
    let for : IsMadeFor b.system c.args.step = subst (λ (x : Contents). IsMadeFor x.system c.args.step) (sym c.self.view_is) c.requires.made in
    subst (λ (x : Contents). IsLegal x.system (state_of x) (step_of c.args.step)) c.self.view_is (legal-step b c.args.step c.in_ok-allow.ensures.ok for c.is_projected.ensures)

pub returns-clause-state : goal.returns-clause-state
returns-clause-state c =
    ap state_of c.in_ok-put.ensures.ok ∙ c.in_ok-made.ensures.state (record { worker = c.args.worker; step = c.args.step }) ∙ ap (λ (b : Contents). after b.system (state_of b) (step_of c.args.step)) c.self.view_is

pub returns-clause-journal : goal.returns-clause-journal
returns-clause-journal c = ap (λ (b : Contents). b.journal) c.in_ok-put.ensures.ok ∙ ap (λ (b : Contents). b.journal ++ (record { worker = c.args.worker; step = c.args.step }) ∷ []) c.self.view_is

pub returns-clause-system : goal.returns-clause-system
returns-clause-system c = ap (λ (b : Contents). b.system) c.in_ok-put.ensures.ok ∙ ap (λ (b : Contents). b.system) c.self.view_is

pub returns-clause-given : goal.returns-clause-given
returns-clause-given c = ap (λ (b : Contents). b.given) c.in_ok-put.ensures.ok ∙ ap (λ (b : Contents). b.given) c.self.view_is

pub returns-clause-claims : goal.returns-clause-claims
returns-clause-claims c = ap (λ (b : Contents). b.tree.claims) c.in_ok-put.ensures.ok ∙ c.in_ok-made.ensures.claims ∙ ap (λ (b : Contents). b.tree.claims) c.self.view_is
