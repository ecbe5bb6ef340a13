use Rattle.std.proofs.Common.{subst}
use Rattle.derivations.specs.Facts.{AreUnder}
use Rattle.derivations.proofs.IndexLemmas.{tuples_keyed, tuples_order, tuples_there, under_is}
use Rattle.derivations.proofs.facts.Facts.under.Goals as goal

pub begun-requires-clause-order : goal.begun-requires-clause-order
begun-requires-clause-order c = tuples_order c.self.inside.rows.items c.self.inside.notes c.args.pred c.by_tuple-row.result.now c.self.invariant c.by_tuple-row.ensures

pub begun-requires-clause-there : goal.begun-requires-clause-there
begun-requires-clause-there c = tuples_there c.self.inside.rows.items c.self.inside.notes c.args.pred c.by_tuple-row.result.now c.self.invariant c.by_tuple-row.ensures

pub begun-requires-clause-keyed : goal.begun-requires-clause-keyed
begun-requires-clause-keyed c = tuples_keyed c.self.inside.rows.items c.self.inside.notes c.args.pred c.by_tuple-row.result.now c.keys_by_tuple-keys.result.now c.self.invariant c.by_tuple-row.ensures c.keys_by_tuple-keys.ensures

pub returns : goal.returns
returns c =
    subst (λ fs. AreUnder fs c.args.pred c.args.front.now c.begun.result.now) c.self.view_is
    (under_is c.self.inside.rows.items c.self.inside.notes c.args.pred c.by_tuple-row.result.now c.args.front.now c.begun.result.now c.self.invariant c.by_tuple-row.ensures c.begun.ensures.order c.begun.ensures.exact)
