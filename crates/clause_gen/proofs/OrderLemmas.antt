-- In a list of nodes in order each node has parts before it.
use Rattle.std.proofs.Common.{◌≡◌, ℕ, zero, suc, ◌+◌, ◌<◌, List, [], ◌∷◌, length, get_or, true, arith, subst}
use Rattle.term_tree.specs.declared.node.Node.{Node}
use Rattle.term_tree.specs.Arena.{has_parts_below}
use Rattle.clause_gen.specs.machinery.Order.{are_in_order}
use Rattle.std.proofs.Common.{Bool, false, ◌&&◌, refl}

both_true : (a b : Bool) → (a && b) ≡ true → (a ≡ true) × (b ≡ true)
both_true true b h = (refl, h)
both_true false b h = absurd (cc)

pub below_at : (number : ℕ) (nodes : List Node) (i : ℕ) (d : Node) → i < length nodes → are_in_order number nodes ≡ true → has_parts_below (number + i) (get_or nodes i d) ≡ true
below_at number [] i d h order = absurd (omega arith)
below_at number (node ∷ nodes) zero d h order =
    subst (λ (k : ℕ). has_parts_below k node ≡ true) (omega arith) (both_true (has_parts_below number node) (are_in_order (number + 1) nodes) order).0
below_at number (node ∷ nodes) (suc i) d h order =
    subst (λ (k : ℕ). has_parts_below k (get_or nodes i d) ≡ true) (omega arith)
    (below_at (number + 1) nodes i d (omega arith) (both_true (has_parts_below number node) (are_in_order (number + 1) nodes) order).1)
