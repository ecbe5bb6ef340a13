-- What definitions have as values of their type.
use Rattle.std.specs.Prelude.{◌≡◌, ◌<◌, ◌^◌, ℕ, ℤ, List, pos, int_lt, true, slice_get, Some}
use Rattle.std.specs.List.{AllByRecursion}
use Rattle.base.specs.Widths.{short_limit}
use Rattle.term_tree.specs.declared.definition.Definition.{Definition}
use Rattle.term_tree.specs.declared.node.TermId.{TermId}
use Rattle.term_tree.specs.declared.node.Node.{Node}
use Rattle.term_tree.specs.declared.node.Node.TheVariants.{Divisible}
use Rattle.term_tree.specs.Arena.{IsArena}

-- a divisor among the terms that have a number of 32 bits is below 2 ^ 63
abbrev pub HasFittingDivisors : List Node → Type 0
HasFittingDivisors nodes = (id : ℕ) (by : ℤ) (arg : TermId) → id < 2 ^ 32 → slice_get nodes id ≡ Some (Divisible by arg) → int_lt by (pos short_limit) ≡ true

pub record IsFit (d : Definition) : Type 0 where
  pub arena : IsArena d.terms.nodes
  pub number : d.body.0 < 2 ^ 32
  pub divisors : HasFittingDivisors d.terms.nodes

abbrev pub AreFit : List Definition → Type 0
AreFit definitions = AllByRecursion IsFit definitions
