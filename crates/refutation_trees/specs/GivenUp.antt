-- Evidence that a form was given up: a search by simplex and branch and bound left the widths of its numbers, or made a given number of splits.
use Rattle.std.specs.Prelude.{◌≡◌, ◌<◌, List, [], ◌∷◌, length}
use Rattle.base.specs.Limits.{most_rows}
use Rattle.lin_atoms.specs.declared.lit.Lit.{Lit}
use Rattle.lin_atoms.specs.declared.form.Form.{Form}
use Rattle.int_rows.specs.Basis.{System, IsWideRow, IsWideCoordinate}
use Rattle.int_rows.specs.Node.{system}
use Rattle.refutation_trees.specs.Refutation.{form_end}
use Rattle.refutation_trees.specs.Split.{Node, IsNode, HaveTrees, start}
use Rattle.refutation_trees.specs.declared.evidence.Evidence.{Evidence}
use Rattle.refutation_trees.specs.declared.evidence.Evidence.TheVariants.{Row, Coordinate, Rows, Nodes}

-- the literals of some node of a split tree of the form
abbrev pub AreOfNode : Form → List Lit → Type 0
AreOfNode form lits = (node : Node) × IsNode form node × (node.lits ≡ lits)

-- the tableau of a node: the quotients are numbered on from the greatest variable in the form, and the slacks come after them
abbrev pub tableau : Form → List Lit → System
tableau form lits = system (form_end form) lits

-- the evidence is one for the form
abbrev pub IsEvidence : Form → Evidence → Type 0
IsEvidence form (Row lits basis wide) = AreOfNode form lits × IsWideRow (tableau form lits).columns (tableau form lits).equations basis wide
IsEvidence form (Coordinate lits basis outside variable) = AreOfNode form lits × IsWideCoordinate (tableau form lits) basis outside variable
IsEvidence form (Rows lits) = AreOfNode form lits × (most_rows < length (tableau form lits).equations)
IsEvidence form (Nodes nodes) = (0 < nodes) × HaveTrees (form_end form) (start form ∷ []) nodes

-- the form is given up with the evidence: that a tree or a basis is there counts, and not which
abbrev pub IsGivenUp : Form → Evidence → Type 0
IsGivenUp form evidence = ∥ IsEvidence form evidence ∥₁
