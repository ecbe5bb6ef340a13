use Rattle.std.proofs.Common.{◌≡◌, ◌+◌, ◌*◌, map, take, drop}
use Rattle.std.specs.Prelude.{IsTrue}
use Rattle.std.specs.List.{list_all}
use Rattle.term_tree.specs.declared.node.TermId.{TermId}
use Rattle.term_tree.specs.Arena.{is_below}
use Rattle.term_tables.specs.machinery.Table.{constant_in}
use Rattle.term_forms.specs.Found.{AreFound, form_by, naming_in}
use Rattle.term_widths.specs.machinery.Seen.{AreNarrowTerms}
use Rattle.term_widths.proofs.narrow.+narrow.Given as goal

abbrev pub decreases-narrow_form : goal.decreases-narrow_form
decreases-narrow_form l = 4 * l.id.0 + 2

abbrev pub decreases-named_form : goal.decreases-named_form
decreases-named_form l = 4 * l.id.0 + 3

abbrev pub decreases-operation : goal.decreases-operation
decreases-operation l = 4 * l.id.0 + 1

abbrev pub decreases-part_forms : goal.decreases-part_forms
decreases-part_forms l = 4 * l.above.0

-- the forms so far, and the terms to come have forms
abbrev pub invariant-part_forms-loop-id : goal.invariant-part_forms-loop-id
invariant-part_forms-loop-id l = record {
  made : l.forms.items ≡ map (λ (id : TermId). form_by (constant_in l.constants) (naming_in l.names.own.items l.names.auxiliary) l.terms.nodes id.0) (take l.id-index l.ids);
  below : IsTrue (list_all (is_below l.fn.above.0) (drop l.id-index l.ids));
  narrow : AreNarrowTerms (constant_in l.constants) (naming_in l.names.own.items l.names.auxiliary) l.terms.nodes (drop l.id-index l.ids);
  known : AreFound (constant_in l.constants) (naming_in l.names.own.items l.names.auxiliary) l.terms.nodes l.known;
}
