use Rattle.std.proofs.Common.{◌∙◌, ap, sym}
use Rattle.std.specs.Map.{lookup}
use Rattle.std.specs.Option.{option_copied}
use Rattle.std.specs.Ordering.{int_eq}
use Rattle.std.specs.Cmp.Lexicographic.{pointwise}
use Rattle.derivations.proofs.PartLemmas.{held_none, held_some}
use Rattle.derivations.proofs.part.Part.get.Goals as goal

pub returns-in-Some-clause-some : goal.returns-in-Some-clause-some
returns-in-Some-clause-some c = held_some c.args.tuple.now c.args.self.now _ (ap (lookup (pointwise int_eq c.args.tuple.now)) (sym c.self.view_is) ∙ sym c.get.ensures.value ∙ ap option_copied c.in-Some.is)

pub returns-in-None-clause-none : goal.returns-in-None-clause-none
returns-in-None-clause-none c e n has = held_none c.args.tuple.now c.args.self.now n (ap (lookup (pointwise int_eq c.args.tuple.now)) (sym c.self.view_is) ∙ sym c.get.ensures.value ∙ ap option_copied c.in-None.is) has
