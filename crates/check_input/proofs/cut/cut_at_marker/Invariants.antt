use Rattle.std.proofs.Common.{◌≡◌, ◌<◌, ℕ}
use Rattle.std.specs.Prelude.{None}
use Rattle.check_input.specs.Cut.{behind_marker}
use Rattle.check_input.proofs.cut.cut_at_marker.Given as goal

-- no line so far is the marker
abbrev pub invariant-loop-at : goal.invariant-loop-at
invariant-loop-at l = (at : ℕ) → at < l.at → behind_marker l.input at ≡ None
