use Rattle.std.proofs.Common.{List, drop}
use Rattle.lin_atoms.specs.declared.lit.Lit.{Lit}
use Rattle.lia_close.specs.Said.{AreReasons}
use Rattle.lia_divisors.specs.machinery.There.{AreThere}
use Rattle.lia_divisors.proofs.said.all_said.Given as goal

-- those so far stand there, and the reasons of the others are left
abbrev pub invariant-loop-at : goal.invariant-loop-at
invariant-loop-at l = record {
  there : (known : List Lit) → AreReasons known l.end l.lits l.reasons → AreThere known l.said.items;
  left : (known : List Lit) → AreReasons known l.end l.lits l.reasons → AreReasons known l.quotient (drop l.at l.lits) (drop l.at l.reasons);
}
