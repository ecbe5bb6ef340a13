use Rattle.std.proofs.Common.{◌≡◌, ℕ, ◌+◌, ◌≤◌, List, map, drop, length}
use Rattle.lin_atoms.specs.Denial.{lit_fits}
use Rattle.lin_atoms.specs.declared.form.Form.{Form}
use Rattle.lin_atoms.specs.declared.lit.Lit.{Lit}
use Rattle.refutation_trees.specs.Refutation.{each_part, followed_by, judged_at}
use Rattle.refutation_trees.specs.machinery.Sizes.{size, sizes}
use Rattle.farkas_proof.specs.machinery.Walk.{left_to, weights}
use Rattle.farkas_proof.proofs.walk.push_parts.Given as goal

-- the parts from the one at `left` on wait, the first of them before the others
abbrev pub invariant-loop-left : goal.invariant-loop-left
invariant-loop-left l = record {
  after : (end : ℕ) (lits : List Lit) (cases : List (List Form)) (next : ℕ) → left_to end l.work.items lits cases next ≡ followed_by (each_part (map (judged_at lit_fits end) (drop l.left l.subs)) (drop l.left l.parts) l.which lits cases next) (left_to end l.fn.work.items lits cases);
  weight : weights l.work.items ≡ weights l.fn.work.items + sizes (map size (drop l.left l.subs));
  within : l.left ≤ length l.subs;
}

abbrev pub decreases-loop-left : goal.decreases-loop-left
decreases-loop-left l = l.left
