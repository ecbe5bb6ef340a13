use Rattle.std.proofs.Common.{length, List, ℤ, Some, None, refl, ap, sym, ◌∙◌}
use Rattle.std.specs.Prelude.{Option}
use Rattle.std.proofs.lemmas.Option.{slice_get_past, slice_get_read}
use Rattle.clause_form.specs.declared.clause.Clause.{Clause}
use Rattle.book_rules.specs.declared.by.By.TheVariants.{Step}
use Rattle.book_rules.specs.FactRules.{are_facts_of}
use Rattle.book_rules.specs.Instances.{body_at}
use Rattle.book_rules.specs.Walks.{has}
use Rattle.step_rules.specs.Standing.{Standing}
use Rattle.step_rules.specs.Tokens.{seen_of}
use Rattle.step_rules.specs.Views.{facts_of}
use Rattle.step_rules.proofs.AskLemmas.{clause-as, clause-told}
use Rattle.step_rules.proofs.recording.unless_body.Goals as goal

pub returns-in-Some : goal.returns-in-Some
returns-in-Some c =
    let sys = ap (λ (s : Standing). s.system) c.parts.view_is in
    let facts = ap (λ (s : Standing). s.facts) c.parts.view_is in
    let body = c.as_slice.ensures.value ∙ c.in_ok-body-in-Some.ensures ∙ ap (λ (p : List ℤ). body_at p c.in-Some.clause.now) c.point.ensures in
    let found = c.in-Some.ensures.lookup in
    let there = slice_get_read c.clauses.result.now (length c.clauses.result.now) c.clause.result c.in-Some.clause.now refl found.3.0 found.1 in
    clause-told (λ (o : Option Clause). has o (λ (clause : Clause). are_facts_of (facts_of c.args.parts.now.facts) c.args.premises.now (body_at (seen_of c.args.seen.now).point clause))) Step _ (Some c.in-Some.clause.now) _ (clause-as _ _ _ _ _ _ sys c.clauses.ensures.is c.clause.ensures there) (rw (facts, body) at (sym c.are_facts_of.ensures ∙ c.if-are_facts_of.false))

pub returns-then-are_facts_of : goal.returns-then-are_facts_of
returns-then-are_facts_of c =
    let sys = ap (λ (s : Standing). s.system) c.parts.view_is in
    let facts = ap (λ (s : Standing). s.facts) c.parts.view_is in
    let body = c.as_slice.ensures.value ∙ c.in_ok-body-in-Some.ensures ∙ ap (λ (p : List ℤ). body_at p c.in-Some.clause.now) c.point.ensures in
    let found = c.in-Some.ensures.lookup in
    let there = slice_get_read c.clauses.result.now (length c.clauses.result.now) c.clause.result c.in-Some.clause.now refl found.3.0 found.1 in
    clause-told (λ (o : Option Clause). has o (λ (clause : Clause). are_facts_of (facts_of c.args.parts.now.facts) c.args.premises.now (body_at (seen_of c.args.seen.now).point clause))) Step _ (Some c.in-Some.clause.now) _ (clause-as _ _ _ _ _ _ sys c.clauses.ensures.is c.clause.ensures there) (rw (facts, body) at (sym c.are_facts_of.ensures ∙ c.if-are_facts_of.true))

pub returns : goal.returns
returns c =
    let sys = ap (λ (s : Standing). s.system) c.parts.view_is in
    let missing = slice_get_past c.clauses.result.now c.clause.result c.in-None.ensures.lookup.3 in
    clause-told (λ (o : Option Clause). has o (λ (clause : Clause). are_facts_of (facts_of c.args.parts.now.facts) c.args.premises.now (body_at (seen_of c.args.seen.now).point clause))) Step _ None _ (clause-as _ _ _ _ _ _ sys c.clauses.ensures.is c.clause.ensures missing) refl
