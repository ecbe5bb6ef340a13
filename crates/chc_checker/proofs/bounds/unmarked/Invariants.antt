use Rattle.std.proofs.Common.{◌≡◌, ℕ, true}
use Rattle.std.specs.Prelude.{slice_get, Some}
use Rattle.chc_checker.proofs.bounds.unmarked.Given as goal

-- no mark so far
abbrev pub invariant-loop : goal.invariant-loop
invariant-loop l = (v : ℕ) → slice_get l.table.items v ≡ Some true → ⊥
