use Rattle.std.proofs.Common.{[], ◌∷◌, ◌++◌, sym, subst}
use Rattle.clause_queries.specs.machinery.Needs.{AreEnough}
use Rattle.clause_queries.proofs.NeedLemmas.{enough-self, needless}
use Rattle.clause_queries.proofs.needing.Needed.take.Goals as goal

pub returns-then-implies : goal.returns-then-implies
returns-then-implies c = needless c.args.self.now.used.items c.args.one (c.implies.ensures c.if-implies.true)

pub returns : goal.returns
returns c =
    let both = c.args.self.now.used.items ++ c.args.one ∷ [] in
    subst (AreEnough both) (sym c.in_ok-push-2.ensures.items) (enough-self both)
