-- What an index keeps.
use Rattle.std.specs.Prelude.{◌≡◌, ◌<◌, ◌^◌, List, length, pos}
use Rattle.lin_atoms.specs.Linear.{of_constant}
use Rattle.lin_atoms.specs.declared.lit.Lit.{Lit}
use Rattle.lin_atoms.specs.declared.lit.Lit.TheVariants.{Le}
use Rattle.clause_form.specs.System.{Clauses}
use Rattle.clause_index.specs.machinery.Heads.{AreListed}
use Rattle.clause_index.specs.machinery.Places.{HavePlaces}
use Rattle.clause_index.specs.declared.heads.Heads.{Heads}
use Rattle.clause_index.specs.declared.places.Places.{Places}

pub record IsIndex (sys : Clauses) (guards : List Places) (falsehood : Lit) (heads : Heads) : Type 0 where
  pub numbered : length sys.clauses < 2 ^ 32
  pub placed : HavePlaces sys.clauses guards
  pub false : falsehood ≡ Le (of_constant (pos 1))
  pub lists : AreListed sys heads
