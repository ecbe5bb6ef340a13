-- A copy in the making: the nodes above the tree that is copied.
use Rattle.std.specs.Prelude.{ℕ, ◌+◌, List, [], ◌∷◌, ◌++◌, map, drop, length}
use Rattle.std.specs.List.{sum_by}
use Rattle.refutation_trees.specs.machinery.Sizes.{size, sizes}
use Rattle.refutation_trees.specs.declared.copying.Frame.{Frame}
use Rattle.refutation_trees.specs.declared.copying.Frame.TheVariants as frame
use Rattle.refutation_trees.specs.declared.copying.Next.{Next}
use Rattle.refutation_trees.specs.declared.copying.Next.TheVariants.{Up, Down}
use Rattle.refutation_trees.specs.declared.tree.Refutation.{Refutation}
use Rattle.refutation_trees.specs.declared.tree.Refutation.TheViews.{Round, Split, Cases, Quotient}

-- the node with a tree in its place
abbrev pub plug : Frame → Refutation → Refutation
plug (frame.Round multipliers divisor) t = Round multipliers.now divisor t
plug (frame.Below lin above) t = Split lin.now t above.now
plug (frame.Above lin below) t = Split lin.now below t
plug (frame.Cases which subs made) t = Cases which (made ++ t ∷ drop (length made + 1) subs.now)
plug (frame.Quotient lit) t = Quotient lit t

-- the whole tree, where the last node is the lowest
abbrev pub plug_all : List Frame → Refutation → Refutation
plug_all [] t = t
plug_all (f ∷ fs) t = plug f (plug_all fs t)

abbrev pub whole : List Frame → Next → Refutation
whole fs (Up t) = plug_all fs t
whole fs (Down t) = plug_all fs t.now

-- the whole tree, where the last copy that was made is it
abbrev pub reached : List Frame → Next → Refutation
reached fs (Up t) = t
reached fs (Down t) = plug_all fs t.now

-- a bound on the turns that a node takes yet, with the subs that aren't copied
abbrev pub pending_of : Frame → ℕ
pending_of (frame.Round multipliers divisor) = 1
pending_of (frame.Below lin above) = size above.now + 2
pending_of (frame.Above lin below) = 1
pending_of (frame.Cases which subs made) = sizes (map size (drop (length made + 1) subs.now)) + 1
pending_of (frame.Quotient lit) = 1

abbrev pub pending : List Frame → ℕ
pending fs = sum_by pending_of fs

abbrev pub ahead : Next → ℕ
ahead (Up t) = 0
ahead (Down t) = size t.now
