-- What is found of a tree: the term that it spells, at its place in an arena that keeps what it had.
use Rattle.std.specs.Prelude.{◌≡◌, ℕ, List, [], length, Result, Ok, Some, slice_get}
use Rattle.term_tree.specs.declared.node.Node.{Node}
use Rattle.term_tree.specs.declared.node.TermId.{TermId}
use Rattle.term_tree.specs.Arena.{Arena}
use Rattle.term_check.specs.declared.part.Part.{Part}
use Rattle.term_check.specs.declared.part.Fault.{Fault}
use Rattle.term_check.specs.Spelling.{Spelled}
use Rattle.term_check.specs.Term.{IsTermAt}

-- a term that was spelled, which the arena has at this number; the terms of lets around it stand at these
abbrev pub IsFoundUnder : List TermId → Result Spelled Fault → Arena → TermId → Part → ℕ → Type 0
IsFoundUnder lets outcome arena id part next = (s : Spelled) × (outcome ≡ Ok s) × IsTermAt arena lets s.term id.0 × (s.part ≡ part) × (s.next ≡ next)

abbrev pub IsFound : Result Spelled Fault → Arena → TermId → Part → ℕ → Type 0
IsFound = IsFoundUnder []

-- each node has its offset
abbrev pub IsAligned : Arena → Type 0
IsAligned arena = length arena.offsets ≡ length arena.nodes

-- what an arena has stays where it is
pub record Keeps (old new : Arena) : Type 0 where
  pub nodes : (id : ℕ) (node : Node) → slice_get old.nodes id ≡ Some node → slice_get new.nodes id ≡ Some node
  pub offsets : (id at : ℕ) → slice_get old.offsets id ≡ Some at → slice_get new.offsets id ≡ Some at
  pub aligned : IsAligned old → IsAligned new
