use Rattle.std.proofs.Common.{◌≡◌, List, true}
use Rattle.std.specs.Prelude.{ℤ}
use Rattle.std.specs.List.{list_all}
use Rattle.lin_atoms.specs.Truth.{truth}
use Rattle.chc_checker.specs.machinery.Links.{AreWithin}
use Rattle.chc_checker.proofs.bounds.+mark.Given as goal

-- the marks so far are right where all parts are true
abbrev pub invariant-mark_all-loop-part : goal.invariant-mark_all-loop-part
invariant-mark_all-loop-part l = (point : List ℤ) → list_all (truth point) l.parts ≡ true → AreWithin l.fn.low l.fn.high point → AreWithin l.low l.high point
