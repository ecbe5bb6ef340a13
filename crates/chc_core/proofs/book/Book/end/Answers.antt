use Rattle.std.proofs.Common.{ℕ, None, sym, ◌∙◌, subst}
use Rattle.book_rules.specs.Frames.{IsSolution}
use Rattle.book_rules.specs.Instances.{IsDerivable, instances}
use Rattle.book_rules.specs.Kept.{IsFalse}
use Rattle.chc_core.specs.Contents.{Contents}
use Rattle.chc_core.specs.Views.{state_of}
use Rattle.chc_core.proofs.BookLemmas.{sat-no_false, sat-solves, unsat-derives}
use Rattle.chc_core.proofs.book.Book.end.Goals as goal

pub returns-clause-sat : goal.returns-clause-sat
returns-clause-sat c = λ level is. subst (λ (b : Contents). IsSolution (instances b.system) (state_of b).lemmas level) c.self.view_is (sat-solves c.self.inside.parts c.self.invariant level (sym c.end.ensures ∙ is))

pub returns-clause-no_false : goal.returns-clause-no_false
returns-clause-no_false c = λ level is. subst (λ (b : Contents). (h : ℕ) → IsDerivable (instances b.system) h None → ⊥) c.self.view_is (sat-no_false c.self.inside.parts c.self.invariant level (sym c.end.ensures ∙ is))

pub returns-clause-unsat : goal.returns-clause-unsat
returns-clause-unsat c = λ fact is. subst (λ (b : Contents). IsFalse (instances b.system) (state_of b) fact) c.self.view_is (unsat-derives c.self.inside.parts c.self.invariant fact (sym c.end.ensures ∙ is))
