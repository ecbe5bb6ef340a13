use Rattle.std.proofs.Common.{length, List, ℤ, Some, None, refl, ap, sym, ◌∙◌}
use Rattle.std.specs.Prelude.{Option}
use Rattle.std.proofs.lemmas.Option.{slice_get_past, slice_get_read}
use Rattle.clause_form.specs.declared.atom.Atom.{Atom}
use Rattle.cube_forms.specs.Cubes.{cube_holds}
use Rattle.book_rules.specs.Instances.{Ground, atom_at, head_at}
use Rattle.book_rules.specs.OpenRules.{tuple_of}
use Rattle.book_rules.specs.State.{holds}
use Rattle.book_rules.specs.Walks.{has}
use Rattle.step_rules.specs.Taken.{open_of}
use Rattle.step_rules.specs.Views.{fresh_of}
use Rattle.step_rules.proofs.AskLemmas.{atom-told}
use Rattle.step_rules.proofs.open_step.rules.is_held.Goals as goal

pub returns-in-Some : goal.returns-in-Some
returns-in-Some c =
    let atom = c.in-Some.atom.now in
    let head = c.in_ok-head.ensures ∙ ap (λ (p : List ℤ). head_at p c.args.clause.now) c.point.ensures in
    let holding = ap (holds (fresh_of c.args.parent.now)) (sym head) ∙ sym c.holds.ensures ∙ c.if-not-holds.false in
    let found = c.in-Some.ensures.lookup in
    let there = rw c.as_slice.ensures at (slice_get_read c.as_slice.result.now (length c.as_slice.result.now) c.args.step.now.atom atom refl found.3.0 found.1) in
    let tuple = c.as_slice-in-Some.ensures ∙ ap (λ (pair : Ground). pair.1) (c.in_ok-pair-in-Some.ensures ∙ ap (λ (p : List ℤ). atom_at p atom) c.point-in-Some.ensures) in
    atom-told _ (λ (atom : Option Atom). has atom (λ (a : Atom). cube_holds (tuple_of (open_of c.args.step.now) a) c.args.step.now.cube)) _ (Some atom) c.holds-in-Some.result holding there (c.holds-in-Some.ensures ∙ ap (λ (t : List ℤ). cube_holds t c.args.step.now.cube) tuple)

pub returns : goal.returns
returns c =
    let head = c.in_ok-head.ensures ∙ ap (λ (p : List ℤ). head_at p c.args.clause.now) c.point.ensures in
    let holding = ap (holds (fresh_of c.args.parent.now)) (sym head) ∙ sym c.holds.ensures ∙ c.if-not-holds.false in
    let missing = rw c.as_slice.ensures at (slice_get_past c.as_slice.result.now c.args.step.now.atom c.in-None.ensures.lookup.3) in
    atom-told _ (λ (atom : Option Atom). has atom (λ (a : Atom). cube_holds (tuple_of (open_of c.args.step.now) a) c.args.step.now.cube)) _ None _ holding missing refl
