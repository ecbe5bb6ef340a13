-- A variable that is free to stand for a term.
use Rattle.std.specs.Prelude.{◌≡◌, ℕ, List, Some}
use Rattle.term_tree.specs.declared.node.Node.{Node}
use Rattle.linear_terms.specs.Linear.{Naming}
use Rattle.term_widths.specs.machinery.Apart.{Occurs}

-- the variable stands for no other thing than the term's value, if for anything
pub record IsFresh (nodes : List Node) (naming : Naming) (v id : ℕ) : Type 0 where
  pub alone : (other : ℕ) → naming.auxiliary other ≡ Some v → other ≡ id
  pub apart : (binder : ℕ) → Occurs nodes id binder → naming.own binder ≡ v → ⊥
