-- Differences without room.
use Rattle.std.specs.Prelude.{List, map, Bool, not}
use Rattle.std.specs.List.{list_any}
use Rattle.lin_atoms.specs.Linear.{Linear}
use Rattle.linear_terms.specs.Linear.{is_narrow, less}

abbrev pub is_wide_pair : Linear × Linear → Bool
is_wide_pair p = not (is_narrow (less p.0 p.1))

-- the form less one of the others
abbrev pub is_wide_with : Linear → List Linear → Bool
is_wide_with first others = list_any is_wide_pair (map (λ other. (first, other)) others)
