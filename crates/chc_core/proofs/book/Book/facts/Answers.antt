use Rattle.std.proofs.Common.{◌≤◌, List, [], length, rules, sym, subst}
use Rattle.derivations.specs.declared.fact.Fact.{Fact as KeptFact}
use Rattle.book_rules.specs.Instances.{instances}
use Rattle.book_rules.specs.Kept.{AreDerivable, AreDistinct, AreRecorded}
use Rattle.book_rules.specs.Values.{AreShort}
use Rattle.chc_core.specs.Contents.{Contents}
use Rattle.chc_core.specs.Views.{state_of}
use Rattle.chc_core.specs.machinery.Books.{IsBook}
use Rattle.chc_core.proofs.BookLemmas.{facts_within, ordered, recorded, short}
use Rattle.chc_core.proofs.ReaderLemmas.{derivable-facts}
use Rattle.chc_core.proofs.book.Book.facts.Goals as goal

pub returns-clause-is : goal.returns-clause-is
returns-clause-is c = search rules

pub returns-clause-recorded : goal.returns-clause-recorded
returns-clause-recorded c = subst (λ (b : Contents). AreRecorded b.system [] (state_of b).facts) c.self.view_is (recorded c.self.inside.parts c.self.invariant)

pub returns-clause-derivable : goal.returns-clause-derivable
returns-clause-derivable c = subst (λ (b : Contents). AreDerivable (instances b.system) (state_of b).facts) c.self.view_is (derivable-facts c.self.inside.parts c.self.invariant)

pub returns-clause-distinct : goal.returns-clause-distinct
returns-clause-distinct c = subst (λ (b : Contents). AreDistinct (state_of b).facts) c.self.view_is (ordered c.self.inside.parts c.self.invariant).distinct

pub returns-clause-short : goal.returns-clause-short
returns-clause-short c = subst (λ (b : Contents). AreShort (state_of b)) c.self.view_is (short c.self.inside.parts c.self.invariant)

pub returns-clause-count : goal.returns-clause-count
returns-clause-count c = subst (λ (fs : List KeptFact). length fs ≤ c.args.self.now.spent) (sym (returns-clause-is c)) (facts_within c.args.self.now (subst IsBook c.self.view_is c.self.invariant))
