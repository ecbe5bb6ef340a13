use Rattle.std.proofs.Common.{length, Some, None, refl, ap, sym}
use Rattle.std.specs.Prelude.{Option, slice_get}
use Rattle.std.proofs.lemmas.Option.{slice_get_past, slice_get_read}
use Rattle.clause_form.specs.declared.atom.Atom.{Atom}
use Rattle.clause_form.specs.declared.clause.Clause.{Clause}
use Rattle.book_rules.specs.Places.{is_over_atom}
use Rattle.book_rules.specs.Walks.{on}
use Rattle.step_rules.proofs.AskLemmas.{used-told}
use Rattle.step_rules.proofs.there.is_over_body.Goals as goal

pub returns-in-None-get : goal.returns-in-None-get
returns-in-None-get c =
    let preds = c.args.sys.now.preds in
    let found = c.in-Some.ensures.lookup in
    let there = rw c.clauses.ensures.is at (slice_get_read c.clauses.result.now (length c.clauses.result.now) c.args.clause c.in-Some.clause.now refl found.3.0 found.1) in
    let missing = rw c.as_slice.ensures at (slice_get_past c.as_slice.result.now c.args.number c.in-None-get.ensures.lookup.3) in
    used-told (λ (o : Option Clause). is_over_atom preds (on o (λ (clause : Clause). slice_get clause.atoms c.args.number)) c.args.cube.now) (λ (o : Option Atom). is_over_atom preds o c.args.cube.now) _ c.in-Some.clause.now c.args.number None _ there refl missing refl

pub returns-in-Some-get : goal.returns-in-Some-get
returns-in-Some-get c =
    let preds = c.args.sys.now.preds in
    let found = c.in-Some.ensures.lookup in
    let there = rw c.clauses.ensures.is at (slice_get_read c.clauses.result.now (length c.clauses.result.now) c.args.clause c.in-Some.clause.now refl found.3.0 found.1) in
    let looked = c.in-Some-get.ensures.lookup in
    let at = rw c.as_slice.ensures at (slice_get_read c.as_slice.result.now (length c.as_slice.result.now) c.args.number c.in-Some-get.atom.now refl looked.3.0 looked.1) in
    used-told (λ (o : Option Clause). is_over_atom preds (on o (λ (clause : Clause). slice_get clause.atoms c.args.number)) c.args.cube.now) (λ (o : Option Atom). is_over_atom preds o c.args.cube.now) _ c.in-Some.clause.now c.args.number (Some c.in-Some-get.atom.now) _ there refl at c.is_over.ensures

pub returns-in-None : goal.returns-in-None
returns-in-None c =
    let missing = rw c.clauses.ensures.is at (slice_get_past c.clauses.result.now c.args.clause c.in-None.ensures.lookup.3) in
    sym (ap (λ (o : Option Clause). is_over_atom c.args.sys.now.preds (on o (λ (clause : Clause). slice_get clause.atoms c.args.number)) c.args.cube.now) missing)
