-- Which terms have neither predicates nor quantifiers, kept by number.
use Rattle.std.specs.Prelude.{◌≡◌, ℕ, ◌<◌, ◌^◌, List, Bool, false, slice_index_or}
use Rattle.term_tree.specs.declared.node.Node.{Node}
use Rattle.horn_shape.specs.Plain.{is_plain_term}

-- what is kept of a term; nothing of one that isn't there
abbrev pub flag_of : List Bool → ℕ → Bool
flag_of flags id = slice_index_or flags id false

-- what is kept of every term that has a number of 32 bits is so
abbrev pub ArePlainFlags : List Node → List Bool → Type 0
ArePlainFlags nodes flags = (id : ℕ) → id < 2 ^ 32 → flag_of flags id ≡ is_plain_term nodes id
