use Rattle.std.proofs.Common.{◌≡◌, ◌≤◌, ℕ, length, drop, true}
use Rattle.term_tree.specs.Value.{environment_of}
use Rattle.term_tree.specs.machinery.Known.{AreKnown}
use Rattle.term_tree.specs.machinery.Walk.{has_number}
use Rattle.term_tree.specs.Width.{IsWideTerm}
use Rattle.term_tree.proofs.evaluation.values.Given as goal

abbrev pub invariant-loop-at : goal.invariant-loop-at
invariant-loop-at l = record {
  within : l.at ≤ length l.ids;
  known : AreKnown l.terms.nodes (environment_of l.env) l.known (drop l.at l.ids);
  fitting : (q : ℕ) → has_number q (drop l.at l.ids) ≡ true → IsWideTerm l.terms.nodes q (environment_of l.env) → ⊥;
}

abbrev pub decreases-loop-at : goal.decreases-loop-at
decreases-loop-at l = l.at
