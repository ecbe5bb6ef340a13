use Rattle.std.proofs.Common.{◌≡◌, ◌≤◌, length, drop, map}
use Rattle.term_tree.specs.declared.node.TermId.{TermId}
use Rattle.term_tree.specs.Sorts.{have_sorts}
use Rattle.term_tables.specs.machinery.Table.{sort_in}
use Rattle.term_tables.proofs.sorts.have_sorts.Given as goal

-- the rest decides
abbrev pub invariant-loop-i : goal.invariant-loop-i
invariant-loop-i l = record {
  told : have_sorts (drop l.i l.sorts) (map (λ (id : TermId). sort_in l.known id.0) (drop l.i l.ids)) ≡ have_sorts l.sorts (map (λ (id : TermId). sort_in l.known id.0) l.ids);
  within : l.i ≤ length l.ids;
}
