-- Trees of a text have no more nodes than the text has bytes.
use Rattle.std.proofs.Common.{◌≡◌, ◌<◌, ◌≤◌, ◌+◌, ℕ, List, [], ◌∷◌, length, get_or, true, sym, ap, ◌∙◌, subst, arith}
use Rattle.std.specs.Prelude.{Option, Some, suc, zero, slice_get, nat_lt}
use Rattle.sexp_read.specs.declared.tree.Tree.{Tree}
use Rattle.sexp_read.specs.declared.tree.Tree.TheViews.{List as ListTree}
use Rattle.sexp_read.specs.declared.tree.TextStop.{TextStop}
use Rattle.sexp_read.specs.Trees.{IsTree, leaf, list, AreTrees, none, more, IsReading}
use Rattle.sexp_read.proofs.Public.{IsAhead, next_ahead}
use Rattle.term_check.specs.Weight.{weight, weights}
use Rattle.term_check.proofs.SpellingLemmas.{weight-List}

mutual
  pub tree_light : (text : List ℕ) (depth at : ℕ) (tree : Tree) (after : ℕ) → IsTree text depth at tree after → (weight tree + at ≤ after) × (after ≤ length text)
  tree_light text _ _ _ _ (leaf depth at kind start end h) =
      let a = subst (IsAhead text at) h (next_ahead text at) in (omega (arith, a.0, a.1), a.2)
  tree_light text _ _ _ _ (list depth at start items inner close h below within h') =
      let a = subst (IsAhead text at) h (next_ahead text at) in
      let b = subst (IsAhead text inner) h' (next_ahead text inner) in
      let r = trees_light text _ _ items inner within in
      let w = weight-List items start (close + 1) in
      (omega (arith, a.0, b.0, r.0, w), omega (arith, b.1))

  pub trees_light : (text : List ℕ) (depth at : ℕ) (trees : List Tree) (after : ℕ) → AreTrees text depth at trees after → (weights trees + at ≤ after) × (at ≤ length text → after ≤ length text)
  trees_light text _ _ _ _ (none depth at) = (omega arith, λ h. h)
  trees_light text _ _ _ _ (more depth at tree mid trees after h rest) =
      let a = tree_light text depth at tree mid h in
      let r = trees_light text depth mid trees after rest in
      (omega (arith, a.0, r.0), λ _. r.1 a.1)

pub reading_weighs : (text : List ℕ) (trees : List Tree) (stop : Option TextStop) → IsReading text trees stop → weights trees ≤ length text
reading_weighs text trees stop h =
    let r = trees_light text 0 0 trees h.0 h.1 in let l = r.1 (omega arith) in omega (arith, r.0, l)

pub weighs_less : (trees : List Tree) (i : ℕ) (tree : Tree) → slice_get trees i ≡ Some tree → weight tree ≤ weights trees
weighs_less [] i tree is = absurd (cc)
weighs_less (t ∷ ts) zero tree is = let same : Some t ≡ Some tree = is in let e : t ≡ tree = cc in let w = ap weight e in omega (arith, w)
weighs_less (t ∷ ts) (suc i) tree is = let h = weighs_less ts i tree is in omega (arith, h)

pub reading_light : (text : List ℕ) (trees : List Tree) (stop : Option TextStop) → IsReading text trees stop → (i : ℕ) (tree : Tree) → slice_get trees i ≡ Some tree → weight tree ≤ length text
reading_light text trees stop h i tree is =
    let r = reading_weighs text trees stop h in let w = weighs_less trees i tree is in omega (arith, r, w)

pub item_lighter : (items : List Tree) (start end i : ℕ) (tree : Tree) → slice_get items i ≡ Some tree → weight tree < weight (ListTree items start end)
item_lighter items start end i tree is = let w = weight-List items start end in let h = weighs_less items i tree is in omega (arith, w, h)

first_there : (trees : List Tree) (tree : Tree) → nat_lt 0 (length trees) ≡ true → tree ≡ get_or trees 0 tree → slice_get trees 0 ≡ Some tree
first_there [] tree h is = absurd (cc)
first_there (t ∷ ts) tree h is = ap Some (sym is)

pub first_light : (text : List ℕ) (trees seen : List Tree) (stop : Option TextStop) (tree : Tree) → IsReading text trees stop → seen ≡ trees → nat_lt 0 (length seen) ≡ true → tree ≡ get_or seen 0 tree → weight tree ≤ length text
first_light text trees seen stop tree h same some is = reading_light text trees stop h 0 tree (ap (λ ts. slice_get ts 0) (sym same) ∙ first_there seen tree some is)
