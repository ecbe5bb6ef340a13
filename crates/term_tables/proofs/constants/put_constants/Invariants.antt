use Rattle.std.proofs.Common.{◌≡◌, drop, map}
use Rattle.term_tree.specs.declared.node.TermId.{TermId}
use Rattle.term_tree.specs.Constants.{all_constant}
use Rattle.term_tables.specs.machinery.Table.{constant_in}
use Rattle.term_tables.proofs.TableLemmas.{behind}
use Rattle.term_tables.proofs.constants.put_constants.Given as goal

-- those so far stand before those to come
abbrev pub invariant-loop-id : goal.invariant-loop-id
invariant-loop-id l = behind l.constants.items (all_constant (map (λ (id : TermId). constant_in l.known id.0) (drop l.id-index l.ids))) ≡ all_constant (map (λ (id : TermId). constant_in l.known id.0) l.ids)
