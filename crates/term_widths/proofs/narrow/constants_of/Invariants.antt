use Rattle.std.proofs.Common.{◌≡◌, map, take}
use Rattle.term_tree.specs.declared.node.TermId.{TermId}
use Rattle.term_tables.specs.machinery.Table.{constant_in}
use Rattle.term_widths.proofs.narrow.constants_of.Given as goal

-- those of the terms so far
abbrev pub invariant-loop-id : goal.invariant-loop-id
invariant-loop-id l = l.known.items ≡ map (λ (id : TermId). constant_in l.fn.constants id.0) (take l.id-index l.ids)
