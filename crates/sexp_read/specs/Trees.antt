-- Which trees a text spells, and its first fault (SMT-LIB 2.6, section 3.2, "S-expressions", with a bound on nesting).
use Rattle.std.specs.Prelude.{ℕ, ◌≡◌, ◌+◌, ◌<◌, ◌≤◌, length, List, [], ◌∷◌, Option, None, Some}
pub use Rattle.base.specs.Limits.{most_open}
use Rattle.sexp_read.specs.declared.tree.Tree.{Tree}
use Rattle.sexp_read.specs.declared.tree.Tree.TheViews.{List as ListTree}
use Rattle.sexp_read.specs.declared.tree.Tree.TheVariants.{Leaf as LeafTree}
use Rattle.sexp_read.specs.declared.tree.TextStop.{TextStop}
use Rattle.sexp_read.specs.declared.tree.TextStop.TheVariants.{BadByte, Unclosed, Deep}
use Rattle.sexp_read.specs.declared.token.Token.TheVariants as token
use Rattle.sexp_read.specs.Lexicon.{next_token}

mutual
  -- IsTree text depth at tree after: the text goes on from an offset with this tree, inside `depth` open lists, and the tree ends at the offset after
  pub data IsTree (text : List ℕ) : ℕ → ℕ → Tree → ℕ → Type 0 where
    leaf : (depth at : ℕ) (kind : _) (start end : ℕ) → next_token text at ≡ token.Leaf kind start end → IsTree text depth at (LeafTree kind start end) end
    list : (depth at start : ℕ) (items : List Tree) (inner close : ℕ) → next_token text at ≡ token.Open start → depth < most_open
        → AreTrees text (depth + 1) (start + 1) items inner → next_token text inner ≡ token.Close close
        → IsTree text depth at (ListTree items start (close + 1)) (close + 1)

  -- one tree after another, up to an offset
  pub data AreTrees (text : List ℕ) : ℕ → ℕ → List Tree → ℕ → Type 0 where
    none : (depth at : ℕ) → AreTrees text depth at [] at
    more : (depth at : ℕ) (tree : Tree) (mid : ℕ) (trees : List Tree) (after : ℕ) → IsTree text depth at tree mid → AreTrees text depth mid trees after
        → AreTrees text depth at (tree ∷ trees) after

-- of lists that are open, the innermost first, where the outermost starts; a tree inside none is itself the outermost
abbrev pub outermost : List ℕ → ℕ → ℕ
outermost [] start = start
outermost (inner ∷ opened) start = outermost opened inner

-- Stops text opened at stop: inside the open lists that start there, the innermost first, the text goes on from an offset to its first fault, or to its end
pub data Stops (text : List ℕ) : List ℕ → ℕ → Option TextStop → Type 0 where
  ended : (at : ℕ) → next_token text at ≡ token.End → Stops text [] at None
  ended_inside : (inner : ℕ) (opened : List ℕ) (at : ℕ) → next_token text at ≡ token.End → Stops text (inner ∷ opened) at (Some (Unclosed (outermost opened inner)))
  ended_in_token : (opened : List ℕ) (at start : ℕ) → next_token text at ≡ token.Unclosed start → Stops text opened at (Some (Unclosed (outermost opened start)))
  no_token : (opened : List ℕ) (at offset : ℕ) → next_token text at ≡ token.BadByte offset → Stops text opened at (Some (BadByte offset))
  closes_nothing : (at start : ℕ) → next_token text at ≡ token.Close start → Stops text [] at (Some (BadByte start))
  too_deep : (opened : List ℕ) (at start : ℕ) → next_token text at ≡ token.Open start → most_open ≤ length opened → Stops text opened at (Some (Deep start))
  -- in a list that opens here, behind its trees up to there
  inside : (opened : List ℕ) (at start : ℕ) (trees : List Tree) (mid : ℕ) (stop : Option TextStop) → next_token text at ≡ token.Open start → length opened < most_open
      → AreTrees text (length opened + 1) (start + 1) trees mid → Stops text (start ∷ opened) mid stop → Stops text opened at stop

-- the trees that end before the text's first fault, and that fault
abbrev pub IsReading : List ℕ → List Tree → Option TextStop → Type 0
IsReading text trees stop = (mid : ℕ) × AreTrees text 0 0 trees mid × Stops text [] mid stop
