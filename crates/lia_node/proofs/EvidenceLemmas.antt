-- Evidence of a node, from what the simplex says of its tableau.
use Rattle.std.proofs.Common.{◌≡◌, ℕ, List, ap, sym, subst, ◌<◌, ◌+◌, length}
use Rattle.std.specs.Prelude.{ℤ}
use Rattle.base.specs.Limits.{most_rows}
use Rattle.lin_atoms.specs.declared.lit.Lit.{Lit}
use Rattle.int_rows.specs.Basis.{IsWideCoordinate, IsWideRow, System}
use Rattle.int_rows.specs.Node.{all_bounds, end_of_quotients, system}
use Rattle.int_rows.specs.Table.{width}
use Rattle.simplex_core.specs.Meaning.{system_of}
use Rattle.refutation_trees.specs.declared.evidence.Evidence.TheVariants.{Row, Coordinate, Rows}
use Rattle.lia_node.specs.Nodes.{node_table}
use Rattle.lia_node.proofs.Public.{length-system}
use Rattle.lia_node.specs.Tells.{IsEvidenceAt}

pub node-width : (q : ℕ) (lits : List Lit) → width (node_table q lits) ≡ (system q lits).columns
node-width q lits = ap (λ n. end_of_quotients q lits + n) (length-system (end_of_quotients q lits) (all_bounds q lits))

-- the equations and bounds of a node's tableau are those of its literals
pub node-system : (q : ℕ) (lits : List Lit) → system_of (node_table q lits) ≡ system q lits
node-system q lits =
    let s = system q lits in
    let made : ℕ → System = λ n. record { variables = s.variables; columns = n; equations = s.equations; lower = s.lower; upper = s.upper } in
    ap made (node-width q lits)

pub row-evidence : (q : ℕ) (lits : List Lit) (basis : List ℕ) (wide : ℤ) → IsWideRow (width (node_table q lits)) (system q lits).equations basis wide → IsEvidenceAt q lits (Row lits basis wide)
row-evidence q lits basis wide is form end node = (
  node,
  subst (λ (k : ℕ). IsWideRow (system k lits).columns (system k lits).equations basis wide) (sym end)
      (subst (λ (n : ℕ). IsWideRow n (system q lits).equations basis wide) (node-width q lits) is),
)

pub coordinate-evidence : (q : ℕ) (lits : List Lit) (basis : List ℕ) (outside : List ℤ) (c : ℕ) → IsWideCoordinate (system_of (node_table q lits)) basis outside c → IsEvidenceAt q lits (Coordinate lits basis outside c)
coordinate-evidence q lits basis outside c is form end node = (
  node,
  subst (λ (k : ℕ). IsWideCoordinate (system k lits) basis outside c) (sym end)
      (subst (λ (s : System). IsWideCoordinate s basis outside c) (node-system q lits) is),
)

pub rows-evidence : (q : ℕ) (lits : List Lit) → most_rows < length (system q lits).equations → IsEvidenceAt q lits (Rows lits)
rows-evidence q lits many form end node = (node, subst (λ (k : ℕ). most_rows < length (system k lits).equations) (sym end) many)
