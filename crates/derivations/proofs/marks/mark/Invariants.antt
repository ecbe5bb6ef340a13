use Rattle.std.proofs.Common.{◌≡◌, ℕ, take, length}
use Rattle.std.specs.Prelude.{◌↔◌, ◌⊎◌}
use Rattle.std.specs.List.{Contains}
use Rattle.derivations.specs.machinery.Marks.{IsMarked}
use Rattle.derivations.proofs.marks.mark.Given as goal

abbrev pub invariant-loop-number : goal.invariant-loop-number
invariant-loop-number l = (length l.marks ≡ length l.fn.marks) × ((m : ℕ) → IsMarked l.marks m ↔ (IsMarked l.fn.marks m ⊎ Contains (take l.number-index l.numbers) m))
