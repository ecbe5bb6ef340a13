use Rattle.std.proofs.Common.{◌≡◌, ℕ, ◌+◌, [], ◌∷◌, ◌++◌, Some, None, length, true, subst, sym}
use Rattle.std.specs.Prelude.{IfOk, OnOk, OnErr, IsErrOf}
use Rattle.book_rules.specs.declared.by.By.{By}
use Rattle.book_rules.specs.declared.end.End.{End}
use Rattle.book_rules.specs.declared.end.End.TheVariants.{Spent as UnitsSpent}
use Rattle.book_rules.specs.Effects.{after}
use Rattle.book_rules.specs.Legal.{IsLegal, end}
use Rattle.book_rules.specs.Places.{has_places}
use Rattle.book_rules.specs.Rules.{broken}
use Rattle.step_rules.specs.Taken.{IsMadeFor, step_of}
use Rattle.chc_core.specs.Contents.{Contents}
use Rattle.chc_core.specs.Views.{state_of}
use Rattle.chc_core.specs.declared.refused.Refused.TheVariants.{Ended, Spent, Rule}
use Rattle.shared_book.proofs.taking.commit_released.Goals as goal

-- the book as it was, but for the worker's claim

pub commit-requires-clause-made : goal.commit-requires-clause-made
commit-requires-clause-made c = subst (λ (b : Contents). IsMadeFor b.system c.args.step) (sym c.release.ensures) c.requires.made

pub commit-requires-clause-places : goal.commit-requires-clause-places
commit-requires-clause-places c = subst (λ (b : Contents). has_places b.system (step_of c.args.step) ≡ true) (sym c.release.ensures) c.requires.places

pub returns-clause-number : goal.returns-clause-number
returns-clause-number c = subst (λ (b : Contents). IfOk c.commit.result (λ n. n ≡ length b.journal + 1)) c.release.ensures c.commit.ensures.number

pub returns-clause-legal : goal.returns-clause-legal
returns-clause-legal c = subst (λ (b : Contents). OnOk c.commit.result (IsLegal b.system (state_of b) (step_of c.args.step))) c.release.ensures c.commit.ensures.legal

pub returns-clause-state : goal.returns-clause-state
returns-clause-state c = subst (λ (b : Contents). OnOk c.commit.result (state_of c.commit.new.self ≡ after b.system (state_of b) (step_of c.args.step))) c.release.ensures c.commit.ensures.state

pub returns-clause-journal : goal.returns-clause-journal
returns-clause-journal c = subst (λ (b : Contents). OnOk c.commit.result (c.commit.new.self.journal ≡ b.journal ++ (record { worker = c.args.worker; step = c.args.step }) ∷ [])) c.release.ensures c.commit.ensures.journal

pub returns-clause-system : goal.returns-clause-system
returns-clause-system c = subst (λ (b : Contents). OnOk c.commit.result (c.commit.new.self.system ≡ b.system)) c.release.ensures c.commit.ensures.system

pub returns-clause-given : goal.returns-clause-given
returns-clause-given c = subst (λ (b : Contents). OnOk c.commit.result (c.commit.new.self.given ≡ b.given)) c.release.ensures c.commit.ensures.given

pub returns-clause-claims : goal.returns-clause-claims
returns-clause-claims c = subst (λ (b : Contents). OnOk c.commit.result (c.commit.new.self.tree.claims ≡ b.tree.claims)) c.release.ensures c.commit.ensures.claims

pub returns-clause-ended : goal.returns-clause-ended
returns-clause-ended c = subst (λ (b : Contents). (e : End) → IsErrOf c.commit.result (Ended e) → (end (state_of b) ≡ Some e) × ((units : ℕ) → e ≡ UnitsSpent units → ⊥)) c.release.ensures c.commit.ensures.ended

pub returns-clause-spent : goal.returns-clause-spent
returns-clause-spent c = subst (λ (b : Contents). (units : ℕ) → IsErrOf c.commit.result (Spent units) → end (state_of b) ≡ Some (UnitsSpent units)) c.release.ensures c.commit.ensures.spent

pub returns-clause-rule : goal.returns-clause-rule
returns-clause-rule c = subst (λ (b : Contents). (n : ℕ) (by : By) → IsErrOf c.commit.result (Rule n by) → (end (state_of b) ≡ None) × (broken b.system (state_of b) (step_of c.args.step) ≡ Some (n, by))) c.release.ensures c.commit.ensures.rule

pub returns-clause-err : goal.returns-clause-err
returns-clause-err c = subst (λ (b : Contents). OnErr c.commit.result (c.commit.new.self ≡ b)) c.release.ensures c.commit.ensures.err
