use Rattle.std.proofs.Common.{◌++◌, List, subst}
use Rattle.chc_tokens.specs.declared.used.Used.{Used}
use Rattle.clause_queries.specs.machinery.Needs.{AreEnough}
use Rattle.clause_queries.proofs.NeedLemmas.{all-taken, enough-self, one-taken}
use Rattle.clause_queries.proofs.needing.Needed.take_all.Goals as goal

pub next-init : goal.next-init
next-init c = enough-self (c.args.self.now.used.items ++ c.args.uses.used.items)

pub next-preserved : goal.next-preserved
next-preserved c =
    let whole = c.args.self.now.used.items ++ c.args.uses.used.items in
    one-taken whole c.next.self.used.items c.pop.new.self.items _ c.in-Some.one
    (subst (λ (us : List Used). AreEnough whole (c.next.self.used.items ++ us)) c.in-Some.ensures.items c.next.invariant) c.in_ok-take.ensures

pub returns : goal.returns
returns c =
    let whole = c.args.self.now.used.items ++ c.args.uses.used.items in
    all-taken whole c.next.self.used.items c.next.left.items c.pop.new.self.items _ c.in_default.ensures.rest c.in_default.ensures.cases.0 c.in_default.ensures.items c.next.invariant
