use Rattle.std.proofs.Common.{ℕ, ℤ, List, ◌∙◌, ap, sym, FitsSigned, rules}
use Rattle.std.specs.Int.{w128}
use Rattle.std.proofs.lemmas.Int.{to_z-of_z}
use Rattle.lin_atoms.specs.declared.lit.Lit.{Lit}
use Rattle.refutation_trees.specs.declared.evidence.Evidence.TheVariants.{Coordinate, Row}
use Rattle.refutation_trees.proofs.evidence.EvidenceCopied.copy.Goals as goal

pub returns-in_ok-basis-in-Row : goal.returns-in_ok-basis-in-Row
returns-in_ok-basis-in-Row c =
    let old = c.in-Row in
    let basis = c.in_ok-basis-in-Row.basis in
    let fits : FitsSigned w128 old.entry = search rules in
    ap (λ (entry : ℤ). Row c.in_ok-lits-in-Row.lits basis entry) (to_z-of_z w128 old.entry fits)
    ∙ ap (λ (lits : List Lit). Row lits basis old.entry) c.in_ok-lits-in-Row.ensures
    ∙ ap (λ (basis : List ℕ). Row old.lits basis old.entry) c.in_ok-basis-in-Row.ensures
    ∙ sym old.is

pub returns-in_ok-outside-in-Coordinate : goal.returns-in_ok-outside-in-Coordinate
returns-in_ok-outside-in-Coordinate c =
    let old = c.in-Coordinate in
    let basis = c.in_ok-basis-in-Coordinate.basis in
    let outside = c.in_ok-outside-in-Coordinate.outside in
    ap (λ (lits : List Lit). Coordinate lits basis outside old.variable) c.in_ok-lits-in-Coordinate.ensures
    ∙ ap (λ (basis : List ℕ). Coordinate old.lits basis outside old.variable) c.in_ok-basis-in-Coordinate.ensures
    ∙ ap (λ (outside : List ℤ). Coordinate old.lits old.basis outside old.variable) c.in_ok-outside-in-Coordinate.ensures
    ∙ sym old.is

pub returns-in-Nodes : goal.returns-in-Nodes
returns-in-Nodes c = sym c.in-Nodes.is
