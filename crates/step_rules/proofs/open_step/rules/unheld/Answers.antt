use Rattle.std.proofs.Common.{length, Some, None, refl, ap, sym, ◌∙◌, ◌&&◌}
use Rattle.std.specs.Prelude.{Option, slice_get}
use Rattle.std.proofs.lemmas.Option.{slice_get_past, slice_get_read}
use Rattle.clause_form.specs.declared.clause.Clause.{Clause}
use Rattle.clause_form.specs.declared.atom.Atom.{Atom}
use Rattle.cube_forms.specs.Cubes.{cube_holds}
use Rattle.book_rules.specs.declared.by.By.TheVariants.{Obligation}
use Rattle.book_rules.specs.Instances.{head_at}
use Rattle.book_rules.specs.OpenRules.{tuple_of}
use Rattle.book_rules.specs.State.{holds}
use Rattle.book_rules.specs.Walks.{has, on}
use Rattle.step_rules.specs.Standing.{Standing}
use Rattle.step_rules.specs.Taken.{open_of}
use Rattle.step_rules.specs.Views.{fresh_of}
use Rattle.step_rules.proofs.AskLemmas.{clause-as, clause-told}
use Rattle.step_rules.proofs.open_step.rules.unheld.Goals as goal

pub returns-else-branch : goal.returns-else-branch
returns-else-branch c =
    let sys = ap (λ (s : Standing). s.system) c.parts.view_is in
    let found = c.in-Some.ensures.lookup in
    let there = slice_get_read c.clauses.result.now (length c.clauses.result.now) c.clause.result c.in-Some.clause.now refl found.3.0 found.1 in
    clause-told (λ (o : Option Clause). has o (λ (clause : Clause). holds (fresh_of c.args.parent.now) (head_at (open_of c.args.step.now).seen.point clause)) && has (on o (λ (clause : Clause). slice_get clause.atoms (open_of c.args.step.now).atom)) (λ (atom : Atom). cube_holds (tuple_of (open_of c.args.step.now) atom) (open_of c.args.step.now).cube)) (Obligation (open_of c.args.step.now).parent) _ (Some c.in-Some.clause.now) _ (clause-as _ _ _ _ _ _ sys c.clauses.ensures.is c.clause.ensures there) (sym c.in_ok-is_held-in-Some.ensures ∙ c.if-branch.false)

pub returns-then-branch : goal.returns-then-branch
returns-then-branch c =
    let sys = ap (λ (s : Standing). s.system) c.parts.view_is in
    let found = c.in-Some.ensures.lookup in
    let there = slice_get_read c.clauses.result.now (length c.clauses.result.now) c.clause.result c.in-Some.clause.now refl found.3.0 found.1 in
    clause-told (λ (o : Option Clause). has o (λ (clause : Clause). holds (fresh_of c.args.parent.now) (head_at (open_of c.args.step.now).seen.point clause)) && has (on o (λ (clause : Clause). slice_get clause.atoms (open_of c.args.step.now).atom)) (λ (atom : Atom). cube_holds (tuple_of (open_of c.args.step.now) atom) (open_of c.args.step.now).cube)) (Obligation (open_of c.args.step.now).parent) _ (Some c.in-Some.clause.now) _ (clause-as _ _ _ _ _ _ sys c.clauses.ensures.is c.clause.ensures there) (sym c.in_ok-is_held-in-Some.ensures ∙ c.if-branch.true)

pub returns-in-None : goal.returns-in-None
returns-in-None c =
    let sys = ap (λ (s : Standing). s.system) c.parts.view_is in
    let missing = slice_get_past c.clauses.result.now c.clause.result c.in-None.ensures.lookup.3 in
    clause-told (λ (o : Option Clause). has o (λ (clause : Clause). holds (fresh_of c.args.parent.now) (head_at (open_of c.args.step.now).seen.point clause)) && has (on o (λ (clause : Clause). slice_get clause.atoms (open_of c.args.step.now).atom)) (λ (atom : Atom). cube_holds (tuple_of (open_of c.args.step.now) atom) (open_of c.args.step.now).cube)) (Obligation (open_of c.args.step.now).parent) _ None _ (clause-as _ _ _ _ _ _ sys c.clauses.ensures.is c.clause.ensures missing) refl
