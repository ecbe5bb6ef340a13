use Rattle.std.proofs.Common.{◌≡◌, ◌<◌, ℕ, false}
use Rattle.obligation_tree.specs.Nodes.{node_at, obligation_in}
use Rattle.book_rules.specs.Areas.{is_wide}
use Rattle.test_turns.proofs.led_books.have_thin.Given as goal

-- those so far
abbrev pub invariant-loop-id : goal.invariant-loop-id
invariant-loop-id l = (k : ℕ) → k < l.id → is_wide (obligation_in (node_at l.tree.nodes k)).cube ≡ false
