use Rattle.std.proofs.Common.{◌≡◌, ◌≤◌, ◌^◌, ◌++◌, true, drop, length}
use Rattle.lin_atoms.specs.Algebra.{collected, scaled_terms}
use Rattle.farkas_proof.specs.machinery.Sum.{are_counted, seen}
use Rattle.farkas_proof.proofs.sum.add_terms.Given as goal

-- the terms from the number on were added
abbrev pub invariant-loop-left : goal.invariant-loop-left
invariant-loop-left l = record {
  value : seen l.terms.items ≡ collected (scaled_terms l.k (drop l.left l.added) ++ seen l.fn.terms.items);
  counted : are_counted l.counted l.terms.items ≡ true;
  within : l.counted ≤ 2 ^ 32;
  more : l.products ≤ l.counted;
  place : l.left ≤ length l.added;
}

abbrev pub decreases-loop-left : goal.decreases-loop-left
decreases-loop-left l = l.left
