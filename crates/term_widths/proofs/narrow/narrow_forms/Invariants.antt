use Rattle.std.proofs.Common.{◌≡◌, length, map, take, drop}
use Rattle.std.specs.Prelude.{IsTrue}
use Rattle.std.specs.List.{list_all}
use Rattle.term_tree.specs.declared.node.TermId.{TermId}
use Rattle.term_tree.specs.Arena.{is_below}
use Rattle.term_tables.specs.machinery.Table.{constant_in}
use Rattle.term_forms.specs.Found.{AreFound, form_by, naming_in}
use Rattle.term_widths.specs.machinery.Seen.{AreNarrowTerms}
use Rattle.term_widths.proofs.narrow.narrow_forms.Given as goal

-- the forms so far, and the terms to come have forms
abbrev pub invariant-loop-id : goal.invariant-loop-id
invariant-loop-id l = record {
  made : l.forms.items ≡ map (λ (id : TermId). form_by (constant_in l.constants) (naming_in l.names.own.items l.names.auxiliary) l.terms.nodes id.0) (take l.id-index l.ids);
  there : IsTrue (list_all (is_below (length l.terms.nodes)) (drop l.id-index l.ids));
  narrow : AreNarrowTerms (constant_in l.constants) (naming_in l.names.own.items l.names.auxiliary) l.terms.nodes (drop l.id-index l.ids);
  known : AreFound (constant_in l.constants) (naming_in l.names.own.items l.names.auxiliary) l.terms.nodes l.known;
}
