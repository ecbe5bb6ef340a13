-- Values that are known, by the numbers of their terms.
use Rattle.std.specs.Prelude.{◌≡◌, ℕ, List, true, false, Option, Some, None, unwrap_or, if◌then◌else◌}
use Rattle.std.specs.Ordering.{nat_cmp}
use Rattle.std.specs.BTreeMap.{BTreeMap, get}
use Rattle.term_tree.specs.declared.node.Node.{Node}
use Rattle.term_tree.specs.declared.scalar.Value.{Value}
use Rattle.term_tree.specs.declared.scalar.Value.TheVariants.{Bool as Truth}
use Rattle.term_tree.specs.Value.{Environment, Worth, node_worth, value_of}
use Rattle.term_tree.specs.machinery.Walk.{has_number}
use Rattle.term_tree.specs.Width.{is_wide}

abbrev pub known_worth : BTreeMap ℕ Value → ℕ → Value
known_worth known id = unwrap_or (get nat_cmp known id) (Truth false)

-- each of these terms has its value there
abbrev pub AreKnown : List Node → Environment → BTreeMap ℕ Value → List ℕ → Type 0
AreKnown nodes env known ids = (q : ℕ) → has_number q ids ≡ true → known_worth known q ≡ value_of nodes q env

-- the value of a node, unless it is wide
abbrev pub fitting_worth : (ℕ → Worth) → Node → Environment → Option Value
fitting_worth part node env = if is_wide part node env then None else Some (node_worth part node env)
