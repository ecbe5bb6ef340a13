-- What a worker may be given to do.
use Rattle.std.specs.Prelude.{◌≡◌, ◌||◌, ℕ, Bool, None, true, false, is_some}
use Rattle.clause_form.specs.System.{Clauses}
use Rattle.obligation_tree.specs.Claims.{is_held_by_another}
use Rattle.book_rules.specs.Legal.{end}
use Rattle.chc_core.specs.Contents.{Contents}
use Rattle.chc_core.specs.Views.{standing_of, state_of}
use Rattle.clause_queries.specs.Answers.{AreFew}
use Rattle.obligation_turn.specs.Turns.{IsOpenLeaf, IsThin}

-- an obligation, and the book in which it is asked
pub record Asked : Type 0 where
  pub obligation : ℕ
  pub snapshot : Contents

-- a live leaf that isn't stalled, of a book of these clauses that hasn't ended and whose cubes are thin
pub record IsJob (sys : Clauses) (asked : Asked) : Type 0 where
  pub system : asked.snapshot.system ≡ sys
  pub few : AreFew sys
  pub goes_on : end (state_of asked.snapshot) ≡ None
  pub thin : IsThin (standing_of asked.snapshot)
  pub leaf : IsOpenLeaf (standing_of asked.snapshot) asked.obligation

-- a live leaf that isn't stalled and that no other worker holds
pub record IsFree (b : Contents) (worker id : ℕ) : Type 0 where
  pub leaf : IsOpenLeaf (standing_of b) id
  pub free : is_held_by_another id worker b.tree.claims ≡ false

-- another worker holds every live leaf that isn't stalled
abbrev pub AreHeld : Contents → ℕ → Type 0
AreHeld b worker = (id : ℕ) → IsOpenLeaf (standing_of b) id → is_held_by_another id worker b.tree.claims ≡ true

-- whether no worker gets a job any more: the book has an end, or want of memory was noted
abbrev pub is_over : Contents → Bool → Bool
is_over b noted = is_some (end (state_of b)) || noted
