use Rattle.std.proofs.Common.{length, Some, None, refl, ap, sym, ◌∙◌}
use Rattle.std.specs.Prelude.{Option}
use Rattle.std.proofs.lemmas.Option.{slice_get_past, slice_get_read}
use Rattle.clause_form.specs.declared.clause.Clause.{Clause}
use Rattle.book_rules.specs.declared.by.By.TheVariants.{Step}
use Rattle.book_rules.specs.OpenRules.{clause_fits}
use Rattle.book_rules.specs.Walks.{has}
use Rattle.step_rules.specs.Standing.{Standing, standing_state}
use Rattle.step_rules.specs.Taken.{open_of}
use Rattle.step_rules.specs.Views.{fresh_of}
use Rattle.step_rules.proofs.AskLemmas.{clause-as, clause-told}
use Rattle.step_rules.proofs.PlaceLemmas.{legal-clause}
use Rattle.step_rules.proofs.open_step.rules.misfit.Goals as goal

pub clause_fits-requires : goal.clause_fits-requires
clause_fits-requires c =
    let sys = ap (λ (s : Standing). s.system) c.parts.view_is in
    let found = c.in-Some.ensures.lookup in
    let there = slice_get_read c.clauses.result.now (length c.clauses.result.now) c.clause.result c.in-Some.clause.now refl found.3.0 found.1 in
    legal-clause c.args.parts.now.system (open_of c.args.step.now).seen.clause c.in-Some.clause.now (rw sys at c.clauses.ensures.legal) (clause-as _ _ _ _ _ _ sys c.clauses.ensures.is c.clause.ensures there)

pub returns-else-branch : goal.returns-else-branch
returns-else-branch c =
    let sys = ap (λ (s : Standing). s.system) c.parts.view_is in
    let found = c.in-Some.ensures.lookup in
    let there = slice_get_read c.clauses.result.now (length c.clauses.result.now) c.clause.result c.in-Some.clause.now refl found.3.0 found.1 in
    clause-told (λ (o : Option Clause). has o (clause_fits (standing_state c.args.parts.now) (open_of c.args.step.now) (fresh_of c.args.parent.now))) Step _ (Some c.in-Some.clause.now) _ (clause-as _ _ _ _ _ _ sys c.clauses.ensures.is c.clause.ensures there) (sym c.in_ok-clause_fits-in-Some.ensures ∙ c.if-branch.false)

pub returns-then-branch : goal.returns-then-branch
returns-then-branch c =
    let sys = ap (λ (s : Standing). s.system) c.parts.view_is in
    let found = c.in-Some.ensures.lookup in
    let there = slice_get_read c.clauses.result.now (length c.clauses.result.now) c.clause.result c.in-Some.clause.now refl found.3.0 found.1 in
    clause-told (λ (o : Option Clause). has o (clause_fits (standing_state c.args.parts.now) (open_of c.args.step.now) (fresh_of c.args.parent.now))) Step _ (Some c.in-Some.clause.now) _ (clause-as _ _ _ _ _ _ sys c.clauses.ensures.is c.clause.ensures there) (sym c.in_ok-clause_fits-in-Some.ensures ∙ c.if-branch.true)

pub returns-in-None : goal.returns-in-None
returns-in-None c =
    let sys = ap (λ (s : Standing). s.system) c.parts.view_is in
    let missing = slice_get_past c.clauses.result.now c.clause.result c.in-None.ensures.lookup.3 in
    clause-told (λ (o : Option Clause). has o (clause_fits (standing_state c.args.parts.now) (open_of c.args.step.now) (fresh_of c.args.parent.now))) Step _ None _ (clause-as _ _ _ _ _ _ sys c.clauses.ensures.is c.clause.ensures missing) refl
