-- What all tuples of a predicate that were met have in common (Karr, "Affine relationships among variables of a program"):
-- forms that are 0 at each of them, where one was met.
use Rattle.std.specs.Prelude.{List, Option, Some, None, map}
use Rattle.lin_atoms.specs.Linear.{Linear}
use Rattle.guess_hulls.specs.declared.hull.Known.{Known}
use Rattle.guess_hulls.specs.declared.hull.Known.TheVariants.{Nothing, Common}

abbrev pub equations_of : Known → Option (List Linear)
equations_of Nothing = None
equations_of (Common hull) = Some hull.equations.items

-- no tuple was met
abbrev pub unknown : {X : Type 0} → List X → List (Option (List Linear))
unknown preds = map (λ x. None) preds
