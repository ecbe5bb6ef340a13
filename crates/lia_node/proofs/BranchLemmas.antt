-- The sides of a branch.
use Rattle.std.proofs.Common.{◌≡◌, ℕ, List, [], ◌∷◌, ◌++◌, refl, arith, ◌<◌, ◌+◌, true, false, Bool}
use Rattle.std.specs.Prelude.{ℤ, pos, neg_ℤ, ◌+ℤ◌, ◌*ℤ◌, ◌||◌}
use Rattle.std.proofs.lemmas.Bool.{and_from, lt-ltb}
use Rattle.std.proofs.lemmas.Int.{by_lt_z, ints}
use Rattle.lin_atoms.specs.Linear.{variable_at}
use Rattle.lin_atoms.specs.Truth.{lit_is_below, lit_truth}
use Rattle.lin_atoms.specs.declared.lit.Lit.{Lit}
use Rattle.lin_atoms.specs.declared.lit.Lit.TheVariants.{Le}
use Rattle.lin_atoms.proofs.Public.{both_true}
use Rattle.int_rows.specs.Node.{end_of_quotients, quotients, system}
use Rattle.int_rows.proofs.ReadyLemmas.{true-le}
use Rattle.refutation_trees.specs.Split.{HasSolution, HasVertexBetween, IsInner, Node, at_least, at_most, by_branch, with_bound}
use Rattle.lia_node.specs.Known.{are_known}

pub fraction-splits : (q : ℕ) (node : Node) (x : ℕ) (c : ℤ) → HasSolution q node.lits → HasVertexBetween (system q node.lits) x c → IsInner q node (with_bound node (at_most x c) ∷ with_bound node (at_least x (c +ℤ pos 1)) ∷ [])
fraction-splits q node x c solution vertex = record { solution = solution; split = by_branch x c vertex refl }

first-true : (a b : Bool) → a ≡ true → (a || b) ≡ true
first-true true b h = refl
first-true false b h = absurd (cc)

second-true : (a b : Bool) → b ≡ true → (a || b) ≡ true
second-true true b h = refl
second-true false b h = h

pub sides-cover : (point : List ℤ) (x : ℕ) (c : ℤ) → (lit_truth point (at_most x c) || lit_truth point (at_least x (c +ℤ pos 1))) ≡ true
sides-cover point x c =
    let y = variable_at point x in
    let plain : pos 1 *ℤ y ≡ y = grind (arith, ints) in
    let turned : neg_ℤ (pos 1) *ℤ y ≡ neg_ℤ y = grind (arith, ints) in
    by_lt_z c y
    (λ less. second-true (lit_truth point (at_most x c)) _ (true-le (neg_ℤ (pos 1) *ℤ y +ℤ pos 0 +ℤ (c +ℤ pos 1)) (pos 0) (omega (arith, ints, less, turned))))
    (λ le. first-true _ (lit_truth point (at_least x (c +ℤ pos 1))) (true-le (pos 1 *ℤ y +ℤ pos 0 +ℤ neg_ℤ c) (pos 0) (omega (arith, ints, le, plain))))

-- a literal on a variable or quotient that is there may come last
known-last : (q x : ℕ) (a k : ℤ) (lits : List Lit) → are_known q lits ≡ true → x < end_of_quotients q lits → are_known q (lits ++ Le (record { terms = (x, a) ∷ []; constant = k }) ∷ []) ≡ true
known-last q x a k [] known less = and_from _ _ (and_from _ _ (lt-ltb x q less) refl) refl
known-last q x a k (lit ∷ lits) known less = let both = both_true (lit_is_below q lit) _ known in and_from _ _ both.0 (known-last (q + quotients lit) x a k lits both.1 less)

pub known-at-most : (q x : ℕ) (c : ℤ) (lits : List Lit) → are_known q lits ≡ true → x < end_of_quotients q lits → are_known q (lits ++ at_most x c ∷ []) ≡ true
known-at-most q x c lits known less = known-last q x (pos 1) (neg_ℤ c) lits known less

pub known-at-least : (q x : ℕ) (c : ℤ) (lits : List Lit) → are_known q lits ≡ true → x < end_of_quotients q lits → are_known q (lits ++ at_least x c ∷ []) ≡ true
known-at-least q x c lits known less = known-last q x (neg_ℤ (pos 1)) c lits known less
