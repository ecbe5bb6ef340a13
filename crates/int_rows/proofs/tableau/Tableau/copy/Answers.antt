use Rattle.std.proofs.Common.{◌≡◌, ap, sym, ◌∙◌, subst, List, map, Vec, Global}
use Rattle.std.specs.Prelude.{ℤ}
use Rattle.int_rows.specs.Table.{IsTable, Table}
use Rattle.int_rows.proofs.TableLemmas.{same-fields}
use Rattle.int_rows.proofs.tableau.Tableau.copy.Goals as goal

abbrev lines : List (Vec ℤ Global) → List (List ℤ)
lines rows = map (λ r. r.items) rows

pub invariant_of-result : goal.invariant_of-result
invariant_of-result c =
    let t = c.self.inside in
    let same = same-fields t.variables (lines c.in_ok-rows.rows.items) (lines t.rows.items) c.in_ok-basic.basic.items t.basic.items c.in_ok-lower.lower.items t.lower.items c.in_ok-upper.upper.items t.upper.items
    (c.in_ok-rows.ensures ∙ ap lines c.as_slice.ensures.value) (c.in_ok-basic.ensures ∙ c.as_slice-2.ensures.value) (c.in_ok-lower.ensures ∙ c.as_slice-3.ensures.value) (c.in_ok-upper.ensures ∙ c.as_slice-4.ensures.value) in
    subst IsTable (sym same) c.self.invariant

pub returns : goal.returns
returns c =
    let t = c.self.inside in
    let same = same-fields t.variables (lines c.in_ok-rows.rows.items) (lines t.rows.items) c.in_ok-basic.basic.items t.basic.items c.in_ok-lower.lower.items t.lower.items c.in_ok-upper.upper.items t.upper.items
    (c.in_ok-rows.ensures ∙ ap lines c.as_slice.ensures.value) (c.in_ok-basic.ensures ∙ c.as_slice-2.ensures.value) (c.in_ok-lower.ensures ∙ c.as_slice-3.ensures.value) (c.in_ok-upper.ensures ∙ c.as_slice-4.ensures.value) in
    same ∙ c.self.view_is
