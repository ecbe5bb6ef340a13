-- What values of variables and quotients tell.
use Rattle.std.specs.Prelude.{◌≡◌, ◌<◌, List, length, map, true, false, slice_index_or}
use Rattle.std.specs.List.{list_all}
use Rattle.lin_atoms.specs.Linear.{is_short}
use Rattle.lin_atoms.specs.Ratio.{Fraction as Number}
use Rattle.lia_node.specs.Vertices.{floored, is_whole}
use Rattle.lia_node.specs.declared.examined.Examined.{Examined}
use Rattle.lia_node.specs.declared.examined.Examined.TheVariants.{False, Conflict, Model, Fraction, Wide}

-- one that isn't an integer, or all of them
abbrev pub IsOfValues : List Number → Examined → Type 0
IsOfValues qs (Fraction v floor) = (v < length qs) × ((d : Number) → is_whole (slice_index_or qs v d) ≡ false) × ((d : Number) → floor ≡ floored (slice_index_or qs v d))
IsOfValues qs (Model point) = (point.items ≡ map floored qs) × (list_all is_whole qs ≡ true) × (list_all is_short point.items ≡ true)
IsOfValues qs (False at) = ⊥
IsOfValues qs (Conflict ms) = ⊥
IsOfValues qs (Wide evidence) = ⊥
