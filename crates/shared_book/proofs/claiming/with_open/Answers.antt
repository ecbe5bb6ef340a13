use Rattle.std.proofs.Common.{◌≡◌, ℕ, Bool, Some, ap, sym, ◌∙◌}
use Rattle.std.specs.Prelude.{Option, if◌then◌else◌}
use Rattle.obligation_tree.specs.Claims.{is_held_by_another}
use Rattle.search_strategy.specs.machinery.Choosing.{first_of}
use Rattle.shared_book.proofs.ChoiceLemmas.{chosen-there, next-later}
use Rattle.shared_book.proofs.claiming.with_open.Goals as goal

pub comes_before-requires-clause-best : goal.comes_before-requires-clause-best
comes_before-requires-clause-best c = chosen-there c.args.snapshot.now c.args.worker c.args.best c.args.book.now c.requires.chosen

pub comes_before-requires-clause-id : goal.comes_before-requires-clause-id
comes_before-requires-clause-id c = c.requires.leaf.there

pub returns-then-comes_before-clause-is : goal.returns-then-comes_before-clause-is
returns-then-comes_before-clause-is c =
    let b = c.args.snapshot.now in
    let found = c.comes_before.ensures ∙ ap (λ (before : Bool). let o : Option ℕ = if before then Some c.args.id else c.args.best in o) c.if-comes_before.true in
    c.claim_open.ensures.is ∙ ap (λ (o : Option ℕ). if is_held_by_another c.args.id c.args.worker b.tree.claims then c.args.best else o) (sym found)

pub returns-else-comes_before-clause-is : goal.returns-else-comes_before-clause-is
returns-else-comes_before-clause-is c =
    let b = c.args.snapshot.now in
    let found = c.comes_before.ensures ∙ ap (λ (before : Bool). let o : Option ℕ = if before then Some c.args.id else c.args.best in o) c.if-comes_before.false in
    next-later (is_held_by_another c.args.id c.args.worker b.tree.claims) c.args.best (first_of b.tree.nodes c.args.best c.args.id) found
