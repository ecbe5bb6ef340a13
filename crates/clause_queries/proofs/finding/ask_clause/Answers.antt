use Rattle.std.proofs.Common.{subst, sym}
use Rattle.std.specs.Prelude.{List}
use Rattle.clause_form.specs.System.{Clauses}
use Rattle.clause_form.specs.declared.atom.Atom.{Atom}
use Rattle.clause_queries.specs.Uses.{uses_from}
use Rattle.clause_queries.specs.machinery.Asking.{IsAnswer, MayAsk}
use Rattle.clause_queries.specs.machinery.Needs.{AreEnough}
use Rattle.clause_queries.proofs.AskLemmas.{may-ask-at}
use Rattle.clause_queries.proofs.GatheredLemmas.{answer-at}
use Rattle.clause_queries.proofs.NeedLemmas.{are-uses}
use Rattle.clause_queries.proofs.finding.ask_clause.Goals as goal

pub ask_by-requires-clause-asks : goal.ask_by-requires-clause-asks
ask_by-requires-clause-asks c =
    subst (λ (sys : Clauses). MayAsk sys c.args.number c.in_ok-goal.goal c.in_ok-used.used.items) (sym c.plain.ensures)
    (may-ask-at c.args.sys.now c.args.frames.now.lemmas c.args.pred c.args.goal.now c.in_ok-goal.goal c.args.k c.args.number c.in_ok-used.used.items c.clause-clause.result.now c.requires.asked c.requires.asks c.clause-clause.ensures.is c.clause-clause.ensures.legal
    c.requires.kept c.goal_is_kept.ensures c.in_ok-goal.ensures
    (are-uses c.args.k c.args.frames.now.lemmas c.clause-clause.result.now c.in_ok-used.used.items (subst (λ (atoms : List Atom). AreEnough (uses_from c.args.k c.args.frames.now.lemmas 0 atoms) c.in_ok-used.used.items) c.as_slice.ensures c.in_ok-used.ensures)))

pub returns : goal.returns
returns c =
    answer-at c.args.sys.now c.args.frames.now.lemmas c.args.pred c.args.goal.now c.in_ok-goal.goal c.args.k c.args.nodes c.args.number c.in_ok-used.used.items c.in_ok-asked.asked c.clause-clause.result.now c.requires.asked c.clause-clause.ensures.is c.in_ok-goal.ensures
    (are-uses c.args.k c.args.frames.now.lemmas c.clause-clause.result.now c.in_ok-used.used.items (subst (λ (atoms : List Atom). AreEnough (uses_from c.args.k c.args.frames.now.lemmas 0 atoms) c.in_ok-used.used.items) c.as_slice.ensures c.in_ok-used.ensures))
    (subst (λ (sys : Clauses). IsAnswer sys c.args.number c.in_ok-goal.goal c.in_ok-used.used.items c.args.nodes c.in_ok-asked.asked) c.plain.ensures c.in_ok-asked.ensures)
