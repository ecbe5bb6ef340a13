-- The cubes of lent lemmas.
use Rattle.std.specs.Prelude.{List, map}
use Rattle.std.specs.Borrow.{Bor}
use Rattle.lin_atoms.specs.declared.lit.Lit.{Lit}

abbrev pub cubes_of : List (Bor (List Lit)) → List (List Lit)
cubes_of kept = map (λ one. one.now) kept
