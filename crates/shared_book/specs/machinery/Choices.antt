-- The leaves of a book, and which has been claimed so far.
use Rattle.std.specs.Prelude.{◌≡◌, ◌||◌, ℕ, Bool, Option, Some, None}
use Rattle.obligation_tree.specs.Claims.{is_held_by_another}
use Rattle.obligation_tree.specs.Nodes.{is_stalled_in, node_at}
use Rattle.chc_core.specs.Contents.{Contents}
use Rattle.shared_book.specs.Jobs.{IsFree}
use Rattle.shared_book.specs.Locks.{claimed_by}

-- stalled, or held by another
abbrev pub is_out : Contents → ℕ → ℕ → Bool
is_out b worker id = is_stalled_in (node_at b.tree.nodes id) || is_held_by_another id worker b.tree.claims

-- the book as it is now, where the best so far is claimed
abbrev pub IsChosen : Contents → ℕ → Option ℕ → Contents → Type 0
IsChosen b worker None now = now ≡ b
IsChosen b worker (Some id) now = IsFree b worker id × (now ≡ claimed_by id worker b)
