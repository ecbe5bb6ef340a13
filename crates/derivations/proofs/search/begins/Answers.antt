use Rattle.std.proofs.Common.{ap, sym, ◌∙◌}
use Rattle.std.specs.Prelude.{ℤ, List}
use Rattle.std.specs.List.{starts_with}
use Rattle.std.specs.Ordering.{int_eq}
use Rattle.derivations.specs.Facts.{tuple_of}
use Rattle.derivations.proofs.FrontLemmas.{begins_not, begins_so}
use Rattle.derivations.proofs.search.begins.Goals as goal

pub returns-clause-yes : goal.returns-clause-yes
returns-clause-yes c = λ is. begins_so c.args.front.now (tuple_of c.args.notes.now c.args.id) (ap (λ (t : List ℤ). starts_with int_eq t c.args.front.now) (sym c.tuple.ensures) ∙ sym c.starts_with.ensures.value ∙ is)

pub returns-clause-no : goal.returns-clause-no
returns-clause-no c = λ is. begins_not c.args.front.now (tuple_of c.args.notes.now c.args.id) (ap (λ (t : List ℤ). starts_with int_eq t c.args.front.now) (sym c.tuple.ensures) ∙ sym c.starts_with.ensures.value ∙ is)
