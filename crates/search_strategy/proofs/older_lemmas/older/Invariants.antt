use Rattle.std.specs.Prelude.{ℕ, ◌<◌, ◌≤◌, IfSome, IsSomeAnd}
use Rattle.search_strategy.specs.Older.{IsOlder}
use Rattle.search_strategy.proofs.older_lemmas.older.Given as goal

-- the last so far
abbrev pub invariant-loop-id : goal.invariant-loop-id
invariant-loop-id l = IfSome l.best (λ found. IsOlder l.frames.lemmas l.part found.0 found.1) × ((n level : ℕ) → n < l.id → IsOlder l.frames.lemmas l.part n level → IsSomeAnd l.best (λ found. n ≤ found.0))
