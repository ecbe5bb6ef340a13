use Rattle.std.proofs.Common.{◌++◌, ◌<◌, ◌≤◌, List, length, sym, subst, arith}
use Rattle.chc_tokens.specs.declared.used.Used.{Used}
use Rattle.clause_queries.specs.Uses.{uses_from}
use Rattle.clause_queries.specs.machinery.Needs.{AreEnough}
use Rattle.clause_queries.proofs.NeedLemmas.{atom-taken, atoms-taken, enough-self}
use Rattle.clause_queries.proofs.using.frame_used.Goals as goal

pub loop-number-init : goal.loop-number-init
loop-number-init c =
    let whole = uses_from c.args.k c.args.frames.now.lemmas 0 c.args.atoms.now in
    subst (λ (us : List Used). AreEnough whole (us ++ whole)) (sym c.new-needed.ensures) (enough-self whole)

pub loop-number-preserved : goal.loop-number-preserved
loop-number-preserved c =
    atom-taken c.args.k c.args.frames.now.lemmas c.args.atoms.now c.loop-number.number c.index-atoms-number.result c.loop-number.needed.used.items _ _ c.loop-number-test.true c.index-atoms-number.is c.in_ok-push_needed.ensures c.loop-number.invariant

pub returns : goal.returns
returns c =
    let atoms = c.args.atoms.now in
    let over = c.loop-number-test.false in
    let past : length atoms ≤ c.loop-number.number = omega (arith, over) in
    atoms-taken c.args.k c.args.frames.now.lemmas atoms c.loop-number.number c.loop-number.needed.used.items _ past c.loop-number.invariant
