use Rattle.std.proofs.Common.{◌∙◌, ap, map}
use Rattle.std.specs.List.{list_all}
use Rattle.lin_atoms.specs.Linear.{lin_is_below}
use Rattle.int_rows.specs.Table.{Table}
use Rattle.lia_node.specs.machinery.Columns.{all_sides, first_of, second_of}
use Rattle.lia_node.proofs.BelowLemmas.{rows-below}
use Rattle.lia_node.proofs.ColumnLemmas.{each-side, with-bounds}
use Rattle.lia_node.proofs.tableau.tableau_of.Goals as goal

pub new-requires-clause-below : goal.new-requires-clause-below
new-requires-clause-below c = ap (list_all (lin_is_below c.args.variables)) (c.as_slice-2.ensures.value ∙ c.in_ok-forms.ensures) ∙ rows-below c.args.variables c.args.bounds.items c.requires.below

pub set_all-requires-clause-each : goal.set_all-requires-clause-each
set_all-requires-clause-each c =
    each-side c.args.variables c.args.bounds.items c.as_slice-2.result.now c.as_slice-in-Ok.result.now c.in-Ok.tableau (c.as_slice-2.ensures.value ∙ c.in_ok-forms.ensures) (c.as_slice-in-Ok.ensures.value ∙ c.in_ok-sides.ensures.is ∙ ap (all_sides c.args.variables) c.as_slice.ensures.value) c.in-Ok.ensures.made

pub returns-in-Ok : goal.returns-in-Ok
returns-in-Ok c =
    let sides = c.as_slice-in-Ok.result.now in
    c.set_all.ensures ∙ ap (λ (t : Table). record t { lower = map first_of sides; upper = map second_of sides }) c.in-Ok.ensures.made
    ∙ with-bounds c.args.variables c.args.bounds.items c.as_slice-2.result.now sides (c.as_slice-2.ensures.value ∙ c.in_ok-forms.ensures) (c.as_slice-in-Ok.ensures.value ∙ c.in_ok-sides.ensures.is ∙ ap (all_sides c.args.variables) c.as_slice.ensures.value)
