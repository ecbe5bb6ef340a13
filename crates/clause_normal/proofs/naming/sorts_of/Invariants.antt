use Rattle.std.proofs.Common.{◌≡◌, ◌++◌, ℕ, map, take}
use Rattle.std.specs.Prelude.{unwrap_or}
use Rattle.term_tree.specs.declared.sort.Sort.TheVariants.{Int}
use Rattle.term_tables.specs.machinery.Table.{sort_in}
use Rattle.clause_normal.proofs.naming.sorts_of.Given as goal

-- those so far
abbrev pub invariant-loop-id : goal.invariant-loop-id
invariant-loop-id l = l.all ≡ l.own ++ map (λ (id : ℕ). unwrap_or (sort_in l.sorts id) Int) (take l.id-index l.placed)
