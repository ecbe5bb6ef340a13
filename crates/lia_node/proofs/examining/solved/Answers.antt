use Rattle.std.proofs.Common.{◌≡◌, ◌∙◌, ap, subst, take, List, ℕ}
use Rattle.std.specs.List.{list_all}
use Rattle.lin_atoms.specs.Linear.{is_short}
use Rattle.lin_atoms.specs.Ratio.{Fraction as Number}
use Rattle.lin_atoms.specs.declared.lit.Lit.{Lit}
use Rattle.int_rows.specs.Node.{end_of_quotients}
use Rattle.int_rows.specs.Table.{Table}
use Rattle.simplex_core.specs.Meaning.{HasShortFloors, Means}
use Rattle.simplex_core.specs.declared.answer.Feasible.TheVariants.{Wide as IsWide}
use Rattle.lia_node.specs.Vertices.{floored}
use Rattle.lia_node.proofs.VertexLemmas.{first-short, told-by-values, vertex-at}
use Rattle.lia_node.proofs.examining.solved.Goals as goal

pub of_values-requires-clause-short : goal.of_values-requires-clause-short
of_values-requires-clause-short c =
    let qs : List Number = c.in-Ok-Vertex.ratios.items in
    let n = c.args.tableau.now.variables in
    let floors = subst (λ a. HasShortFloors c.args.tableau.now a) c.in-Ok-Vertex.field-0-is c.in-Ok-Vertex.ensures.floors in
    ap (λ (l : List Number). list_all (λ q. is_short (floored q)) (take c.columns-variables.result l)) c.deref.ensures.value
    ∙ ap (λ (k : ℕ). list_all (λ q. is_short (floored q)) (take k qs)) c.columns-variables.ensures ∙ first-short n qs floors

pub returns-in_ok-told-in-Ok-Vertex : goal.returns-in_ok-told-in-Ok-Vertex
returns-in_ok-told-in-Ok-Vertex c =
    let q = c.args.end in
    let lits : List Lit = c.args.lits.now in
    let qs : List Number = c.in-Ok-Vertex.ratios.items in
    let vertex = vertex-at q lits c.args.tableau.now qs c.requires.is (subst (λ a. Means c.args.tableau.now a) c.in-Ok-Vertex.field-0-is c.in-Ok-Vertex.ensures.means) in
    let variables : c.columns-variables.result ≡ end_of_quotients q lits = c.columns-variables.ensures ∙ ap (λ (t : Table). t.variables) c.requires.is in
    let firsts : take c.columns-variables.result c.deref.result.now ≡ take (end_of_quotients q lits) qs = ap (λ (l : List Number). take c.columns-variables.result l) c.deref.ensures.value ∙ ap (λ (k : ℕ). take k qs) variables in
    told-by-values q lits qs (take c.columns-variables.result c.deref.result.now) c.in_ok-told-in-Ok-Vertex.told c.are_legal.ensures c.requires.known c.requires.constants vertex firsts c.in_ok-told-in-Ok-Vertex.ensures

pub returns-in_ok-evidence-in-Ok-Wide : goal.returns-in_ok-evidence-in-Ok-Wide
returns-in_ok-evidence-in-Ok-Wide c =
    let means = subst (λ a. Means c.args.tableau.now a) c.in-Ok-Wide.field-0-is c.in-Ok-Wide.ensures.means in
    (c.in_ok-evidence-in-Ok-Wide.ensures.is c.args.end (subst (λ (t : Table). Means t (IsWide c.in-Ok-Wide.wide)) c.requires.is means), c.in_ok-evidence-in-Ok-Wide.ensures.of_node)
