use Rattle.std.proofs.Common.{◌≡◌, drop, map}
use Rattle.std.specs.List.{list_all}
use Rattle.term_tree.specs.declared.node.TermId.{TermId}
use Rattle.term_tree.specs.Sorts.{is_sorted}
use Rattle.term_tables.specs.machinery.Table.{sort_in}
use Rattle.term_tables.proofs.sorts.are_sorted.Given as goal

-- the rest decides
abbrev pub invariant-loop-id : goal.invariant-loop-id
invariant-loop-id l = list_all is_sorted (map (λ (id : TermId). sort_in l.known id.0) (drop l.id-index l.ids)) ≡ list_all is_sorted (map (λ (id : TermId). sort_in l.known id.0) l.ids)
