use Rattle.std.proofs.Common.{◌≡◌, length, map, take, drop}
use Rattle.std.specs.Prelude.{IsTrue}
use Rattle.std.specs.List.{list_all}
use Rattle.term_tree.specs.declared.node.TermId.{TermId}
use Rattle.term_tree.specs.Arena.{is_below}
use Rattle.linear_terms.specs.Linear.{bit_of}
use Rattle.term_formulas.specs.Written.{naming_by}
use Rattle.term_formulas.proofs.bits.bits_of.Given as goal

-- the bits so far
abbrev pub invariant-loop-id : goal.invariant-loop-id
invariant-loop-id l = record {
  made : l.bits.items ≡ map (λ (id : TermId). bit_of (naming_by l.names) l.terms.nodes id.0) (take l.id-index l.ids);
  there : IsTrue (list_all (is_below (length l.terms.nodes)) (drop l.id-index l.ids));
}
