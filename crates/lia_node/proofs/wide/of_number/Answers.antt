use Rattle.std.proofs.Common.{sym, subst, List, ℕ, rules, FitsSigned}
use Rattle.std.specs.Int.{w128}
use Rattle.std.proofs.lemmas.Int.{to_z-of_z}
use Rattle.std.specs.Prelude.{ℤ}
use Rattle.lin_atoms.specs.declared.lit.Lit.{Lit}
use Rattle.int_rows.specs.Basis.{IsWideCoordinate, IsWideRow}
use Rattle.int_rows.specs.Node.{system}
use Rattle.int_rows.specs.Table.{width}
use Rattle.simplex_core.specs.Meaning.{Means, system_of}
use Rattle.simplex_core.specs.declared.answer.Feasible.TheVariants.{Wide as IsWide}
use Rattle.refutation_trees.specs.declared.evidence.Evidence.TheVariants.{Row, Coordinate}
use Rattle.lia_node.specs.Nodes.{node_table}
use Rattle.lia_node.specs.Tells.{IsEvidenceAt}
use Rattle.lia_node.proofs.EvidenceLemmas.{coordinate-evidence, row-evidence}
use Rattle.lia_node.proofs.wide.of_number.Goals as goal

pub returns-in-Row-clause-is : goal.returns-in-Row-clause-is
returns-in-Row-clause-is c q means =
    let lits : List Lit = c.args.lits.now in
    let basis : List ℕ = c.in-Row.basis.items in
    let is : IsWideRow (width (node_table q lits)) (system q lits).equations basis c.in-Row.entry = subst (λ w. Means (node_table q lits) (IsWide w)) c.in-Row.is means in
    let fits : FitsSigned w128 c.in-Row.entry = search rules in
    simp to_z-of_z (subst (λ (ls : List Lit). IsEvidenceAt q lits (Row ls c.from_vec.result c.in-Row.entry)) (sym c.in_ok-lits.ensures)
    (subst (λ (bs : List ℕ). IsEvidenceAt q lits (Row lits bs c.in-Row.entry)) (sym c.from_vec.ensures) (row-evidence q lits basis c.in-Row.entry is)))

pub returns-in-Coordinate-clause-is : goal.returns-in-Coordinate-clause-is
returns-in-Coordinate-clause-is c q means =
    let lits : List Lit = c.args.lits.now in
    let basis : List ℕ = c.in-Coordinate.basis.items in
    let outside : List ℤ = c.in-Coordinate.outside.items in
    let v = c.in-Coordinate.variable in
    let is : IsWideCoordinate (system_of (node_table q lits)) basis outside v = subst (λ w. Means (node_table q lits) (IsWide w)) c.in-Coordinate.is means in
    subst (λ (ls : List Lit). IsEvidenceAt q lits (Coordinate ls c.from_vec-in-Coordinate.result c.from_vec-in-Coordinate-2.result v)) (sym c.in_ok-lits.ensures)
    (subst (λ (bs : List ℕ). IsEvidenceAt q lits (Coordinate lits bs c.from_vec-in-Coordinate-2.result v)) (sym c.from_vec-in-Coordinate.ensures)
    (subst (λ (os : List ℤ). IsEvidenceAt q lits (Coordinate lits basis os v)) (sym c.from_vec-in-Coordinate-2.ensures) (coordinate-evidence q lits basis outside v is)))
