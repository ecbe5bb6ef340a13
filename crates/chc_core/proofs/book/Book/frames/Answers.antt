use Rattle.std.proofs.Common.{◌≤◌, length, rules, ap, sym, ◌∙◌, subst}
use Rattle.lemma_frames.specs.Frames.{Lemmas}
use Rattle.book_rules.specs.Frames.{AreGood}
use Rattle.book_rules.specs.Instances.{instances}
use Rattle.book_rules.specs.Kept.{AreInRange}
use Rattle.chc_core.specs.Contents.{Contents}
use Rattle.chc_core.specs.Views.{state_of}
use Rattle.chc_core.specs.machinery.Books.{IsBook}
use Rattle.chc_core.proofs.BookLemmas.{lemmas_within}
use Rattle.chc_core.proofs.ReaderLemmas.{good-lemmas, levels-within}
use Rattle.chc_core.proofs.book.Book.frames.Goals as goal

pub returns-clause-is : goal.returns-clause-is
returns-clause-is c = search rules

pub returns-clause-preds : goal.returns-clause-preds
returns-clause-preds c = ap (λ (f : Lemmas). f.preds) (returns-clause-is c) ∙ (subst IsBook c.self.view_is c.self.invariant).preds

pub returns-clause-good : goal.returns-clause-good
returns-clause-good c = subst (λ (b : Contents). AreGood (instances b.system) (state_of b).lemmas) c.self.view_is (good-lemmas c.self.inside.parts c.self.invariant)

pub returns-clause-levels : goal.returns-clause-levels
returns-clause-levels c = subst (λ (b : Contents). AreInRange b.level (state_of b).lemmas) c.self.view_is (levels-within c.self.inside.parts c.self.invariant)

pub returns-clause-count : goal.returns-clause-count
returns-clause-count c = subst (λ (f : Lemmas). length f.lemmas ≤ c.args.self.now.spent) (sym (returns-clause-is c)) (lemmas_within c.args.self.now (subst IsBook c.self.view_is c.self.invariant))
