-- What stands behind the lock, and what claims change of it.
use Rattle.std.specs.Prelude.{◌≡◌, ◌<◌, ℕ, List, Option, None, Bool, get_or}
use Rattle.obligation_tree.specs.Claims.{claimed, most_workers, released}
use Rattle.chc_core.specs.Contents.{Contents}

-- the book with its claims, whether want of memory was noted, and what the shares' counts sum to
pub record Behind : Type 0 where
  pub book : Contents
  pub noted : Bool
  pub total : ℕ

abbrev pub with_claims : List (Option ℕ) → Contents → Contents
with_claims claims b = record b { tree = record b.tree { claims = claims } }

-- the book in which the worker holds this obligation and no other
abbrev pub claimed_by : ℕ → ℕ → Contents → Contents
claimed_by id worker b = with_claims (claimed id worker b.tree.claims) b

-- the book in which the worker holds none
abbrev pub released_by : ℕ → Contents → Contents
released_by worker b = with_claims (released worker b.tree.claims) b

-- no worker holds any
abbrev pub AreReleased : List (Option ℕ) → Type 0
AreReleased claims = (i : ℕ) → i < most_workers → get_or claims i None ≡ None
