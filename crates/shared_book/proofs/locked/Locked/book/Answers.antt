use Rattle.std.proofs.Common.{◌≡◌, ap, length, rules, subst, sym, ◌∙◌}
use Rattle.book_rules.specs.Frames.{AreGood}
use Rattle.book_rules.specs.Instances.{instances}
use Rattle.book_rules.specs.Legal.{AreLegal, replay}
use Rattle.book_rules.specs.State.{opening}
use Rattle.book_rules.specs.Walks.{AllOf}
use Rattle.chc_core.specs.Contents.{Contents}
use Rattle.chc_core.specs.Views.{standing_of, state_of, steps_of}
use Rattle.obligation_turn.specs.Turns.{IsThin}
use Rattle.shared_book.specs.Locks.{Behind}
use Rattle.shared_book.specs.Runs.{IsEntry}
use Rattle.shared_book.proofs.RunLemmas.{named-good, named-legal, named-replay}
use Rattle.shared_book.proofs.locked.Locked.book.Goals as goal

pub returns-clause-is : goal.returns-clause-is
returns-clause-is g c = search rules

pub returns-clause-system : goal.returns-clause-system
returns-clause-system g c = subst (λ (b : Contents). b.system ≡ _) (ap (λ (l : Behind). l.book) c.self.view_is ∙ sym (returns-clause-is g c)) c.self.invariant.0.system

pub returns-clause-given : goal.returns-clause-given
returns-clause-given g c = subst (λ (b : Contents). b.given ≡ _) (ap (λ (l : Behind). l.book) c.self.view_is ∙ sym (returns-clause-is g c)) c.self.invariant.0.given

pub returns-clause-replayed : goal.returns-clause-replayed
returns-clause-replayed g c = subst (λ (b : Contents). replay g.R.Run.system (opening g.R.Run.units) (steps_of b.journal) ≡ state_of b) (ap (λ (l : Behind). l.book) c.self.view_is ∙ sym (returns-clause-is g c))
    (named-replay _ _ c.self.inside.book c.self.invariant.0.system c.self.invariant.0.given c.replay_law.ensures.replayed)

pub returns-clause-legal : goal.returns-clause-legal
returns-clause-legal g c = subst (λ (b : Contents). AreLegal g.R.Run.system (opening g.R.Run.units) (steps_of b.journal)) (ap (λ (l : Behind). l.book) c.self.view_is ∙ sym (returns-clause-is g c))
    (named-legal _ _ c.self.inside.book c.self.invariant.0.system c.self.invariant.0.given c.replay_law.ensures.legal)

pub returns-clause-good : goal.returns-clause-good
returns-clause-good g c = subst (λ (b : Contents). AreGood (instances _) (state_of b).lemmas) (ap (λ (l : Behind). l.book) c.self.view_is ∙ sym (returns-clause-is g c))
    (named-good _ c.self.inside.book c.self.invariant.0.system c.frames-frames.ensures.good)

pub returns-clause-entries : goal.returns-clause-entries
returns-clause-entries g c = subst (λ (b : Contents). AllOf (IsEntry _ _) b.journal) (ap (λ (l : Behind). l.book) c.self.view_is ∙ sym (returns-clause-is g c)) c.self.invariant.0.entries

pub returns-clause-thin : goal.returns-clause-thin
returns-clause-thin g c = subst (λ (b : Contents). IsThin (standing_of b)) (ap (λ (l : Behind). l.book) c.self.view_is ∙ sym (returns-clause-is g c)) c.self.invariant.0.thin

pub returns-clause-counted : goal.returns-clause-counted
returns-clause-counted g c = ap (λ (l : Behind). l.total) (sym c.self.view_is) ∙ c.self.invariant.1 ∙ ap (λ (b : Contents). length b.journal) (ap (λ (l : Behind). l.book) c.self.view_is ∙ sym (returns-clause-is g c))
