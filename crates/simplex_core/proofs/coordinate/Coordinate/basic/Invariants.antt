use Rattle.std.proofs.Common.{◌≡◌, ◌≤◌, drop}
use Rattle.std.specs.Prelude.{neg_ℤ, ◌+ℤ◌}
use Rattle.simplex_core.specs.Coordinate.{others}
use Rattle.simplex_core.proofs.CoordinateLemmas.{product_at}
use Rattle.simplex_core.proofs.SumLemmas.{sum_over}
use Rattle.simplex_core.proofs.coordinate.Coordinate.basic.Given as goal

-- what is taken away, with the products to come, are the others
abbrev pub invariant-loop-place : goal.invariant-loop-place
invariant-loop-place l = record {
  value : neg_ℤ l.sum.value +ℤ sum_over (product_at l.row l.values l.own) (drop l.place-index l.places) ≡ others l.row l.values l.own;
  added : l.sum.added ≤ l.place-index;
}
