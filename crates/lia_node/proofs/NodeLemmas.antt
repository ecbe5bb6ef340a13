-- Whole solutions of a node's tableau are points of its literals.
use Rattle.std.proofs.Common.{◌≡◌, ℕ, List, ◌<◌, true, length}
use Rattle.std.specs.Prelude.{ℤ}
use Rattle.std.specs.List.{list_all}
use Rattle.lin_atoms.specs.declared.lit.Lit.{Lit}
use Rattle.int_rows.specs.Basis.{MeetsBounds, Point}
use Rattle.int_rows.specs.Node.{all_bounds, end_of_quotients, system}
use Rattle.int_rows.specs.Rows.{SolvesAll}
use Rattle.lia_node.specs.Known.{are_known, is_legal}
use Rattle.lia_node.specs.Whole.{AreWhole, is_met}
use Rattle.lia_node.proofs.BelowLemmas.{all-below}
use Rattle.lia_node.proofs.HoldLemmas.{solution-holds}
use Rattle.lia_node.proofs.SaidLemmas.{said-lits}
use Rattle.lia_node.proofs.TidyLemmas.{all-tidy}

pub solution-met : (q : ℕ) (lits : List Lit) (p : Point) (whole : List ℤ) → list_all is_legal lits ≡ true → are_known q lits ≡ true → 0 < p.den → length p.nums ≡ (system q lits).columns → AreWhole (system q lits).variables p whole
    → SolvesAll p.nums (system q lits).equations → MeetsBounds (system q lits) p → list_all (is_met whole) lits ≡ true
solution-met q lits p whole legal known some long are solves meets =
    said-lits q whole lits legal (solution-holds (end_of_quotients q lits) (all_bounds q lits) p whole (all-tidy q lits legal known) (all-below q lits known) some long are solves meets)
