use Rattle.std.proofs.Common.{length, Some, None, refl, ap, sym, ◌∙◌}
use Rattle.std.specs.Prelude.{Option}
use Rattle.std.proofs.lemmas.Option.{slice_get_past, slice_get_read}
use Rattle.clause_form.specs.declared.clause.Clause.{Clause}
use Rattle.book_rules.specs.declared.by.By.TheVariants.{Step}
use Rattle.book_rules.specs.StallRules.{query_fits}
use Rattle.book_rules.specs.Walks.{has}
use Rattle.step_rules.specs.Standing.{Standing}
use Rattle.step_rules.specs.Taken.{stall_of}
use Rattle.step_rules.specs.Views.{fresh_of}
use Rattle.step_rules.proofs.AskLemmas.{clause-as, clause-told}
use Rattle.step_rules.proofs.PlaceLemmas.{legal-clause}
use Rattle.step_rules.proofs.stall_step.rules.unfit.Goals as goal

pub returns-else-branch : goal.returns-else-branch
returns-else-branch c =
    let sys = ap (λ (s : Standing). s.system) c.parts.view_is in
    let found = c.in-Some.ensures.lookup in
    let there = slice_get_read c.clauses.result.now (length c.clauses.result.now) c.args.step.now.clause c.in-Some.clause.now refl found.3.0 found.1 in
    clause-told (λ (o : Option Clause). has o (query_fits (stall_of c.args.step.now) (fresh_of c.args.target.now))) Step _ (Some c.in-Some.clause.now) _ (clause-as _ _ _ _ _ _ sys c.clauses.ensures.is refl there) (sym c.in_ok-query_fits-in-Some.ensures ∙ c.if-branch.false)

pub returns-then-branch : goal.returns-then-branch
returns-then-branch c =
    let sys = ap (λ (s : Standing). s.system) c.parts.view_is in
    let found = c.in-Some.ensures.lookup in
    let there = slice_get_read c.clauses.result.now (length c.clauses.result.now) c.args.step.now.clause c.in-Some.clause.now refl found.3.0 found.1 in
    clause-told (λ (o : Option Clause). has o (query_fits (stall_of c.args.step.now) (fresh_of c.args.target.now))) Step _ (Some c.in-Some.clause.now) _ (clause-as _ _ _ _ _ _ sys c.clauses.ensures.is refl there) (sym c.in_ok-query_fits-in-Some.ensures ∙ c.if-branch.true)

pub query_fits-requires-clause-there : goal.query_fits-requires-clause-there
query_fits-requires-clause-there c =
    let sys = ap (λ (s : Standing). s.system) c.parts.view_is in
    let found = c.in-Some.ensures.lookup in
    let there = slice_get_read c.clauses.result.now (length c.clauses.result.now) c.args.step.now.clause c.in-Some.clause.now refl found.3.0 found.1 in
    clause-as _ _ _ _ _ _ sys c.clauses.ensures.is refl there

pub query_fits-requires-clause-legal : goal.query_fits-requires-clause-legal
query_fits-requires-clause-legal c =
    let sys = ap (λ (s : Standing). s.system) c.parts.view_is in
    let found = c.in-Some.ensures.lookup in
    let there = slice_get_read c.clauses.result.now (length c.clauses.result.now) c.args.step.now.clause c.in-Some.clause.now refl found.3.0 found.1 in
    legal-clause c.args.parts.now.system c.args.step.now.clause c.in-Some.clause.now (rw sys at c.clauses.ensures.legal) (clause-as _ _ _ _ _ _ sys c.clauses.ensures.is refl there)

pub returns-in-None : goal.returns-in-None
returns-in-None c =
    let sys = ap (λ (s : Standing). s.system) c.parts.view_is in
    let missing = slice_get_past c.clauses.result.now c.args.step.now.clause c.in-None.ensures.lookup.3 in
    clause-told (λ (o : Option Clause). has o (query_fits (stall_of c.args.step.now) (fresh_of c.args.target.now))) Step _ None _ (clause-as _ _ _ _ _ _ sys c.clauses.ensures.is refl missing) refl
