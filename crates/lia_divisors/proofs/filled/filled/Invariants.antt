use Rattle.std.proofs.Common.{◌≡◌, List, length}
use Rattle.lin_atoms.specs.declared.lit.Lit.{Lit}
use Rattle.lia_divisors.specs.machinery.There.{AreThere, StandsFor}
use Rattle.lia_divisors.proofs.filled.filled.Given as goal

-- those so far are in their places
abbrev pub invariant-loop-one : goal.invariant-loop-one
invariant-loop-one l = record {
  long : length l.made.items ≡ l.known;
  stands : (all : List Lit) → AreThere all l.said → StandsFor l.made.items all;
}
