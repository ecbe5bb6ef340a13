-- A tree as it is written while it is searched: its nodes in preorder, with the trees of what is closed.
use Rattle.std.specs.Prelude.{List, [], ◌∷◌, take, drop}
use Rattle.refutation_trees.specs.declared.tree.Refutation.{Refutation}
use Rattle.refutation_trees.specs.declared.tree.Refutation.TheViews as tree
use Rattle.lia_close.specs.declared.written.Step.{Step}
use Rattle.lia_close.specs.declared.written.Step.TheVariants.{Split, Cases, Named, Closed}

-- the trees for what is open from a step on, by those for what is open behind it
abbrev pub with_step : Step → List Refutation → List Refutation
with_step (Closed t) ts = t ∷ ts
with_step (Named lit) [] = []
with_step (Named lit) (t ∷ ts) = tree.Quotient lit t ∷ ts
with_step (Split lin) [] = []
with_step (Split lin) (b ∷ []) = []
with_step (Split lin) (b ∷ a ∷ ts) = tree.Split lin b a ∷ ts
with_step (Cases which count) ts = tree.Cases which (take count ts) ∷ drop count ts

-- the trees for what was open before all steps, by those for what is open now
abbrev pub assembled : List Step → List Refutation → List Refutation
assembled [] ts = ts
assembled (step ∷ steps) ts = with_step step (assembled steps ts)
