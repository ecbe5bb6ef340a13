-- The trees of a text have no more nodes than it has bytes.
use Rattle.std.proofs.Common.{◌≡◌, ℕ, ◌+◌, ◌<◌, ◌≤◌, List, [], ◌∷◌, length, take, drop, get_or, zero, suc, sym, ap, ◌∙◌, arith}
use Rattle.std.specs.Prelude.{Option}
use Rattle.sexp_read.specs.declared.tree.Tree.{Tree}
use Rattle.sexp_read.specs.declared.tree.TextStop.{TextStop}
use Rattle.sexp_read.specs.declared.tree.Tree.TheViews.{List as ListTree}
use Rattle.sexp_read.specs.Trees.{IsReading}
use Rattle.term_check.specs.Weight.{weight, weights}
use Rattle.term_check.proofs.Public.{reading_weighs, weigh_all, weight-List}

pub reading_counts : (text : List ℕ) (trees : List Tree) (stop : Option TextStop) → IsReading text trees stop → length trees ≤ length text
reading_counts text trees stop h = let a = reading_weighs text trees stop h in let b = weigh_all trees in omega (arith, a, b)

-- one of the trees
pub one_weighs : (trees : List Tree) (i : ℕ) (d : Tree) → i < length trees → weight (get_or trees i d) ≤ weights trees
one_weighs [] i d h = absurd (omega (arith, h))
one_weighs (tree ∷ trees) zero d h = omega arith
one_weighs (tree ∷ trees) (suc i) d h = let w = one_weighs trees i d (omega (arith, h)) in omega (arith, w)

pub first_weigh : (n : ℕ) (trees : List Tree) → weights (take n trees) ≤ weights trees
first_weigh zero trees = omega arith
first_weigh (suc n) [] = omega arith
first_weigh (suc n) (tree ∷ trees) = let w = first_weigh n trees in omega (arith, w)

pub last_weigh : (n : ℕ) (trees : List Tree) → weights (drop n trees) ≤ weights trees
last_weigh zero trees = omega arith
last_weigh (suc n) [] = omega arith
last_weigh (suc n) (tree ∷ trees) = let w = last_weigh n trees in omega (arith, w)

-- the trees behind the first of a list
pub parts_weigh : (tree : Tree) (items all : List Tree) (start end n : ℕ) → tree ≡ ListTree items start end → all ≡ items → weights (take n (drop 1 all)) ≤ weight tree
parts_weigh tree items all start end n is same =
    let f = first_weigh n (drop 1 all) in
    let l = last_weigh 1 all in
    let w : weight tree ≡ 1 + weights all = ap weight is ∙ weight-List items start end ∙ ap (λ (xs : List Tree). 1 + weights xs) (sym same) in
    omega (arith, f, l, w)
