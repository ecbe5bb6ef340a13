-- What a node of a split tree tells, by the tableau of its literals, where quotients are numbered on from q.
use Rattle.std.specs.Prelude.{◌≡◌, ℕ, List, length, Bool, false, true, slice_get}
use Rattle.std.specs.List.{list_all}
use Rattle.std.specs.Option.{option_map_or}
use Rattle.lin_atoms.specs.Linear.{is_short}
use Rattle.lin_atoms.specs.Truth.{lit_truth}
use Rattle.lin_atoms.specs.declared.form.Form.{Form}
use Rattle.lin_atoms.specs.declared.lit.Lit.{Lit}
use Rattle.int_rows.specs.Node.{end_of_quotients, system}
use Rattle.simplex_core.specs.Meaning.{IsConflict}
use Rattle.refutation_trees.specs.GivenUp.{AreOfNode, IsEvidence}
use Rattle.refutation_trees.specs.Refutation.{form_end}
use Rattle.refutation_trees.specs.Split.{HasSolution, HasVertexBetween, is_no_falsehood}
use Rattle.refutation_trees.specs.declared.evidence.Evidence.{Evidence}
use Rattle.refutation_trees.specs.declared.evidence.Evidence.TheVariants.{Row, Coordinate, Rows, Nodes}
use Rattle.lia_node.specs.Nodes.{node_table}
use Rattle.lia_node.specs.declared.examined.Examined.{Examined}
use Rattle.lia_node.specs.declared.examined.Examined.TheVariants.{False, Conflict, Model, Fraction, Wide}

-- whether a tableau was made, so that there are few quotients
abbrev pub has_tableau : Examined → Bool
has_tableau (False at) = false
has_tableau (Conflict ms) = true
has_tableau (Model point) = true
has_tableau (Fraction variable floor) = true
has_tableau (Wide evidence) = false

-- evidence for each form of which these are the literals of a node, and whose quotients are numbered on from q
abbrev pub IsEvidenceAt : ℕ → List Lit → Evidence → Type 0
IsEvidenceAt q lits evidence = (form : Form) → form_end form ≡ q → AreOfNode form lits → IsEvidence form evidence

-- evidence by a node's tableau, and not by a count of nodes
abbrev pub is_of_node : Evidence → Bool
is_of_node (Row lits basis entry) = true
is_of_node (Coordinate lits basis outside variable) = true
is_of_node (Rows lits) = true
is_of_node (Nodes nodes) = false

abbrev pub Tells : ℕ → List Lit → Examined → Type 0
Tells q lits (False at) = option_map_or is_no_falsehood (slice_get lits at) true ≡ false
Tells q lits (Conflict ms) = IsConflict (node_table q lits) ms.items
Tells q lits (Model point) = HasSolution q lits × (length point.items ≡ end_of_quotients q lits) × (list_all is_short point.items ≡ true) × (list_all (lit_truth point.items) lits ≡ true)
Tells q lits (Fraction variable floor) = HasSolution q lits × HasVertexBetween (system q lits) variable floor
Tells q lits (Wide evidence) = IsEvidenceAt q lits evidence × (is_of_node evidence ≡ true)
