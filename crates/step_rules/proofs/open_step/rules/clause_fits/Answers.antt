use Rattle.std.proofs.Common.{◌≡◌, length, Some, None, Bool, false, refl, sym, ◌∙◌, subst}
use Rattle.std.specs.Prelude.{IfOk, Option}
use Rattle.std.proofs.lemmas.Option.{slice_get_past, slice_get_read}
use Rattle.clause_form.specs.declared.atom.Atom.{Atom}
use Rattle.book_rules.specs.OpenRules.{atom_fits}
use Rattle.book_rules.specs.Walks.{has}
use Rattle.step_rules.specs.Standing.{standing_state}
use Rattle.step_rules.specs.Taken.{open_of}
use Rattle.step_rules.specs.Views.{fresh_of}
use Rattle.step_rules.proofs.AskLemmas.{atom-told}
use Rattle.step_rules.proofs.open_step.rules.clause_fits.Goals as goal

pub returns-in-Some : goal.returns-in-Some
returns-in-Some c =
    let atom = c.in-Some.atom.now in
    let fits : Atom → Bool = atom_fits (standing_state c.args.parts.now) (open_of c.args.step.now) (fresh_of c.args.parent.now) c.args.clause.now in
    let found = c.in-Some.ensures.lookup in
    let there = rw c.as_slice.ensures at (slice_get_read c.as_slice.result.now (length c.as_slice.result.now) c.args.step.now.atom atom refl found.3.0 found.1) in
    let head = sym c.is_head.ensures ∙ c.if-not-is_head.false in
    subst (λ (b : Bool). IfOk c.atom_fits.result (λ is. is ≡ b)) (atom-told _ (λ (o : Option Atom). has o fits) _ (Some atom) (fits atom) head there refl) c.atom_fits.ensures

pub returns-in-None : goal.returns-in-None
returns-in-None c =
    let fits : Atom → Bool = atom_fits (standing_state c.args.parts.now) (open_of c.args.step.now) (fresh_of c.args.parent.now) c.args.clause.now in
    let missing = rw c.as_slice.ensures at (slice_get_past c.as_slice.result.now c.args.step.now.atom c.in-None.ensures.lookup.3) in
    let head = sym c.is_head.ensures ∙ c.if-not-is_head.false in
    atom-told _ (λ (o : Option Atom). has o fits) _ None false head missing refl
