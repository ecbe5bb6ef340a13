use Rattle.std.proofs.Common.{◌≡◌, ◌++◌, ◌+◌, ℕ, length, refl}
use Rattle.std.proofs.lemmas.Option.{slice_get_past, slice_get_read}
use Rattle.std.specs.Prelude.{slice_get, Some, Result, Ok, Err, IfOk}
use Rattle.term_forms.proofs.FoundLemmas.{on_ok}
use Rattle.clause_laws.specs.Defined.{count_of, defined_forms, definition_forms, definition_places}
use Rattle.clause_defined.proofs.JudgeLemmas.{few_given, forms_given, narrow_given, next_given, none_forms, none_next}
use Rattle.clause_defined.proofs.putting.put_use.Goals as goal

if_ok : {A E : Type 0} (P Q : A → Type 0) (r : Result A E) → ((a : A) → P a → Q a) → IfOk r P → IfOk r Q
if_ok P Q (Ok a) f h = f a h
if_ok P Q (Err e) f h = h

pub put_definition-requires-clause-narrow : goal.put_definition-requires-clause-narrow
put_definition-requires-clause-narrow c =
    let atom = c.args.atom.now in
    let defs = c.args.defs.now in
    let d = c.in-Some.definition.now in
    let found = c.in-Some.ensures.lookup in
    let there : slice_get defs atom.pred ≡ Some d = slice_get_read defs (length defs) atom.pred d refl found.3.0 found.1 in
    narrow_given (slice_get defs atom.pred) d atom c.args.next c.as_slice.result.now there c.as_slice.ensures c.requires.narrow

pub put_definition-requires-clause-few : goal.put_definition-requires-clause-few
put_definition-requires-clause-few c =
    let atom = c.args.atom.now in
    let defs = c.args.defs.now in
    let d = c.in-Some.definition.now in
    let found = c.in-Some.ensures.lookup in
    let there : slice_get defs atom.pred ≡ Some d = slice_get_read defs (length defs) atom.pred d refl found.3.0 found.1 in
    few_given (slice_get defs atom.pred) d c.args.next there c.requires.few

pub returns-in-None-clause-forms : goal.returns-in-None-clause-forms
returns-in-None-clause-forms c =
    let atom = c.args.atom.now in
    let defs = c.args.defs.now in
    none_forms (slice_get defs atom.pred) atom c.args.sign c.args.next c.args.out.now (slice_get_past defs atom.pred c.in-None.ensures.lookup.3)

pub returns-in-None-clause-next : goal.returns-in-None-clause-next
returns-in-None-clause-next c =
    let atom = c.args.atom.now in
    let defs = c.args.defs.now in
    none_next (slice_get defs atom.pred) c.args.next (slice_get_past defs atom.pred c.in-None.ensures.lookup.3)

pub returns-in-Some-clause-forms : goal.returns-in-Some-clause-forms
returns-in-Some-clause-forms c =
    let atom = c.args.atom.now in
    let defs = c.args.defs.now in
    let d = c.in-Some.definition.now in
    let old = c.args.out.now in
    let new = c.put_definition.new.out in
    let found = c.in-Some.ensures.lookup in
    let there : slice_get defs atom.pred ≡ Some d = slice_get_read defs (length defs) atom.pred d refl found.3.0 found.1 in
    on_ok c.put_definition.result (new ≡ old ++ definition_forms c.args.sign d c.as_slice.result.now c.args.next) (new ≡ old ++ defined_forms (slice_get defs atom.pred) atom c.args.sign c.args.next)
    (λ made. forms_given (slice_get defs atom.pred) d atom c.args.sign c.args.next c.as_slice.result.now old new there c.as_slice.ensures made) c.put_definition.ensures.forms

pub returns-in-Some-clause-next : goal.returns-in-Some-clause-next
returns-in-Some-clause-next c =
    let atom = c.args.atom.now in
    let defs = c.args.defs.now in
    let d = c.in-Some.definition.now in
    let found = c.in-Some.ensures.lookup in
    let there : slice_get defs atom.pred ≡ Some d = slice_get_read defs (length defs) atom.pred d refl found.3.0 found.1 in
    if_ok (λ (after : ℕ). after ≡ c.args.next + length (definition_places d)) (λ (after : ℕ). after ≡ c.args.next + count_of (slice_get defs atom.pred)) c.put_definition.result
    (λ after counts. next_given (slice_get defs atom.pred) d c.args.next after there counts) c.put_definition.ensures.next
