use Rattle.std.proofs.Common.{◌≡◌, ◌≤◌, ◌*◌, ◌^◌, ◌+ℤ◌, drop}
use Rattle.std.specs.Prelude.{fold, nat_abs}
use Rattle.term_tree.specs.Operators.{sum_of}
use Rattle.term_tables.proofs.constants.sum.Given as goal

-- what the rest gives from here is what all give
abbrev pub invariant-loop-n : goal.invariant-loop-n
invariant-loop-n l = record {
  told : fold (λ a n. a +ℤ n) l.total (drop l.n-index l.constants) ≡ sum_of l.constants;
  small : nat_abs l.total ≤ l.n-index * 2 ^ 63;
}
