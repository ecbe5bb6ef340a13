use Rattle.std.proofs.Common.{sym, subst}
use Rattle.derivations.specs.Facts.{AreOf}
use Rattle.derivations.proofs.facts.Facts.of.Goals as goal

pub returns : goal.returns
returns c = subst (λ fs. AreOf fs c.args.pred c.by_number.result.now) c.self.view_is (subst (λ r. AreOf c.self.inside.notes c.args.pred r) (sym c.by_number.ensures) (c.self.invariant.each c.args.pred).numbers)
