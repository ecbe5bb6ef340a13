use Rattle.std.proofs.Common.{◌≤◌, ◌+◌, length, rules, sym, subst}
use Rattle.obligation_tree.specs.Nodes.{TreeState as Tree}
use Rattle.book_rules.specs.Kept.{ArePlaced}
use Rattle.book_rules.specs.Rooted.{IsRooted}
use Rattle.chc_core.specs.Contents.{Contents}
use Rattle.chc_core.specs.Views.{state_of}
use Rattle.chc_core.specs.machinery.Books.{IsBook}
use Rattle.chc_core.proofs.BookLemmas.{nodes_within, rooted}
use Rattle.chc_core.proofs.ReaderLemmas.{placed-nodes}
use Rattle.chc_core.proofs.book.Book.tree.Goals as goal

pub returns-clause-is : goal.returns-clause-is
returns-clause-is c = search rules

pub returns-clause-placed : goal.returns-clause-placed
returns-clause-placed c = subst (λ (b : Contents). ArePlaced (state_of b)) c.self.view_is (placed-nodes c.self.inside.parts c.self.invariant)

pub returns-clause-rooted : goal.returns-clause-rooted
returns-clause-rooted c = subst (λ (b : Contents). IsRooted (state_of b)) c.self.view_is (rooted c.self.inside.parts c.self.invariant)

pub returns-clause-count : goal.returns-clause-count
returns-clause-count c = subst (λ (t : Tree). length t.nodes ≤ c.args.self.now.spent + 1) (sym (returns-clause-is c)) (nodes_within c.args.self.now (subst IsBook c.self.view_is c.self.invariant))
