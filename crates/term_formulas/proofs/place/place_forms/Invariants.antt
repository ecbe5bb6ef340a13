use Rattle.std.proofs.Common.{◌≡◌, ◌+◌, ◌++◌, drop}
use Rattle.term_tables.specs.machinery.Table.{constant_in, sort_in}
use Rattle.term_forms.specs.Found.{AreFound}
use Rattle.term_formulas.specs.Written.{naming_by, place_forms_by}
use Rattle.term_formulas.specs.machinery.Parts.{ArePlaces}
use Rattle.term_formulas.proofs.place.place_forms.Given as goal

-- those so far stand before those of the places to come
abbrev pub invariant-loop-id : goal.invariant-loop-id
invariant-loop-id l = record {
  number : l.v ≡ l.first + l.id-index;
  made : l.out ++ place_forms_by (constant_in l.constants) (sort_in l.sorts) (naming_by l.names) l.terms.nodes l.v (drop l.id-index l.placed)
      ≡ l.fn.out ++ place_forms_by (constant_in l.constants) (sort_in l.sorts) (naming_by l.names) l.terms.nodes l.first l.placed;
  places : ArePlaces (constant_in l.constants) (naming_by l.names) l.terms.nodes l.v (drop l.id-index l.placed);
  known : AreFound (constant_in l.constants) (naming_by l.names) l.terms.nodes l.known;
}
