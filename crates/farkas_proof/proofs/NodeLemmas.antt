-- Nodes of split trees: literals that join, and the numbers of quotients.
use Rattle.std.proofs.Common.{◌≡◌, ℕ, ◌+◌, ◌<◌, List, [], ◌∷◌, ◌++◌, length, map, refl, ap, sym, ◌∙◌, subst, append_assoc, append-nil}
use Rattle.std.proofs.lemmas.List.{length-map}
use Rattle.lin_atoms.specs.declared.lit.Lit.{Lit}
use Rattle.lin_atoms.specs.declared.form.Form.{Form}
use Rattle.int_rows.specs.Node.{all_bounds, bounds_of, end_of_quotients, equations, in_rows, quotients}
use Rattle.int_rows.specs.Ready.{ready}
use Rattle.int_rows.proofs.Public.{length-equations}
use Rattle.refutation_trees.specs.Flatten.{disjunctions, literals}
use Rattle.refutation_trees.specs.GivenUp.{AreOfNode, IsEvidence}
use Rattle.refutation_trees.specs.Refutation.{form_end}
use Rattle.refutation_trees.specs.Split.{Node, IsNode, HaveTrees, first, taken_in, takes_in, start}
use Rattle.refutation_trees.specs.declared.evidence.Evidence.TheVariants.{Rows}

pub ends-append : (q : ℕ) (above below : List Lit) → end_of_quotients q (above ++ below) ≡ end_of_quotients (end_of_quotients q above) below
ends-append q [] below = refl
ends-append q (lit ∷ above) below = ends-append (q + quotients lit) above below

pub bounds-append : (q : ℕ) (above below : List Lit) → all_bounds q (above ++ below) ≡ all_bounds q above ++ all_bounds (end_of_quotients q above) below
bounds-append q [] below = refl
bounds-append q (lit ∷ above) below =
    ap (λ bs. bounds_of (ready q lit) ++ bs) (bounds-append (q + quotients lit) above below)
    ∙ sym (append_assoc (bounds_of (ready q lit)) (all_bounds (q + quotients lit) above) (all_bounds (end_of_quotients (q + quotients lit) above) below))

abbrev pub node_of : List Lit → List Lit → List (List Form) → Node
node_of lits left_out open_cases = record { lits = lits; left_out = left_out; open_cases = open_cases }

-- the literals that are left out join in their order
each-joins : (form : Form) (lits left_out : List Lit) (open_cases : List (List Form)) → IsNode form (node_of lits left_out open_cases) → IsNode form (node_of (lits ++ left_out) [] open_cases)
each-joins form lits [] open_cases is = subst (λ ls. IsNode form (node_of ls [] open_cases)) (sym (append-nil lits)) is
each-joins form lits (lit ∷ left_out) open_cases is =
    subst (λ ls. IsNode form (node_of ls [] open_cases)) (append_assoc lits (lit ∷ []) left_out)
    (each-joins form (lits ++ lit ∷ []) left_out open_cases (taken_in (node_of lits (lit ∷ left_out) open_cases) (node_of (lits ++ lit ∷ []) left_out open_cases) 0 lit is refl refl))

pub all-join : (form : Form) → IsNode form (node_of (literals form) [] (disjunctions form))
all-join form = each-joins form [] (literals form) (disjunctions form) (first (start form) refl)

pub each-in-trees : (q : ℕ) (lits left_out : List Lit) (open_cases : List (List Form)) (nodes : List Node) (n : ℕ) → HaveTrees q (node_of (lits ++ left_out) [] open_cases ∷ nodes) n → HaveTrees q (node_of lits left_out open_cases ∷ nodes) n
each-in-trees q lits [] open_cases nodes n have = subst (λ ls. HaveTrees q (node_of ls [] open_cases ∷ nodes) n) (append-nil lits) have
each-in-trees q lits (lit ∷ left_out) open_cases nodes n have =
    takes_in (node_of lits (lit ∷ left_out) open_cases) nodes n 0 lit refl
    (each-in-trees q (lits ++ lit ∷ []) left_out open_cases nodes n (subst (λ ls. HaveTrees q (node_of ls [] open_cases ∷ nodes) n) (sym (append_assoc lits (lit ∷ []) left_out)) have))

-- a tableau has a row for each form of two or more variables
pub many-rows : (form : Form) (lits : List Lit) → AreOfNode form lits → 1024 < length (in_rows (all_bounds (form_end form) lits)) → IsEvidence form (Rows lits)
many-rows form lits of many =
    let rows = in_rows (all_bounds (form_end form) lits) in
    let variables = end_of_quotients (form_end form) lits in
    let each : length (equations (variables + length rows) variables (map (λ b. b.form) rows)) ≡ length rows = length-equations (variables + length rows) variables (map (λ b. b.form) rows) ∙ length-map rows (λ b. b.form) in
    (of, subst (λ n. 1024 < n) (sym each) many)
