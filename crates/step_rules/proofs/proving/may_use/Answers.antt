use Rattle.std.proofs.Common.{length, Bool, ◌||◌, Some, None, refl, ap, sym, ◌∙◌}
use Rattle.std.specs.Prelude.{Option, option_map, slice_get}
use Rattle.std.proofs.lemmas.Option.{slice_get_past, slice_get_read}
use Rattle.clause_form.specs.declared.atom.Atom.{Atom}
use Rattle.clause_form.specs.declared.clause.Clause.{Clause}
use Rattle.book_rules.specs.Frames.{Lemma, frame_has, same_lemma}
use Rattle.book_rules.specs.Walks.{has, on}
use Rattle.cube_rules.specs.Views.{lemmas_of}
use Rattle.step_rules.specs.machinery.Claims.{claim_of}
use Rattle.step_rules.proofs.AskLemmas.{used-told}
use Rattle.step_rules.proofs.proving.may_use.Goals as goal

pub returns-else-frame_has : goal.returns-else-frame_has
returns-else-frame_has c =
    let found = c.in-Some.ensures.lookup in
    let there = rw c.clauses.ensures.is at (slice_get_read c.clauses.result.now (length c.clauses.result.now) c.args.number c.in-Some.clause.now refl found.3.0 found.1) in
    let looked = c.in-Some-get.ensures.lookup in
    let at = rw c.as_slice.ensures at (slice_get_read c.as_slice.result.now (length c.as_slice.result.now) c.args.used.now.atom c.in-Some-get.atom.now refl looked.3.0 looked.1) in
    used-told (λ (o : Option Clause). has (on o (λ (clause : Clause). option_map (λ (atom : Atom). record { pred = atom.pred; cube = c.args.used.now.lemma }) (slice_get clause.atoms c.args.used.now.atom))) (λ (lemma : Lemma). frame_has (lemmas_of c.args.frames.now.lemmas) c.args.k lemma || has (claim_of c.args.own.now) (λ (itself : Lemma). same_lemma itself lemma))) (λ (o : Option Atom). has (option_map (λ (atom : Atom). record { pred = atom.pred; cube = c.args.used.now.lemma }) o) (λ (lemma : Lemma). frame_has (lemmas_of c.args.frames.now.lemmas) c.args.k lemma || has (claim_of c.args.own.now) (λ (itself : Lemma). same_lemma itself lemma))) _ c.in-Some.clause.now c.args.used.now.atom (Some c.in-Some-get.atom.now) _ there refl at (c.is_lemma.ensures ∙ sym (ap (λ (b : Bool). b || has (claim_of c.args.own.now) (λ (itself : Lemma). same_lemma itself (record { pred = c.in-Some-get.atom.now.pred; cube = c.args.used.now.lemma }))) (sym c.frame_has.ensures ∙ c.if-frame_has.false)))

pub returns-then-frame_has : goal.returns-then-frame_has
returns-then-frame_has c =
    let found = c.in-Some.ensures.lookup in
    let there = rw c.clauses.ensures.is at (slice_get_read c.clauses.result.now (length c.clauses.result.now) c.args.number c.in-Some.clause.now refl found.3.0 found.1) in
    let looked = c.in-Some-get.ensures.lookup in
    let at = rw c.as_slice.ensures at (slice_get_read c.as_slice.result.now (length c.as_slice.result.now) c.args.used.now.atom c.in-Some-get.atom.now refl looked.3.0 looked.1) in
    used-told (λ (o : Option Clause). has (on o (λ (clause : Clause). option_map (λ (atom : Atom). record { pred = atom.pred; cube = c.args.used.now.lemma }) (slice_get clause.atoms c.args.used.now.atom))) (λ (lemma : Lemma). frame_has (lemmas_of c.args.frames.now.lemmas) c.args.k lemma || has (claim_of c.args.own.now) (λ (itself : Lemma). same_lemma itself lemma))) (λ (o : Option Atom). has (option_map (λ (atom : Atom). record { pred = atom.pred; cube = c.args.used.now.lemma }) o) (λ (lemma : Lemma). frame_has (lemmas_of c.args.frames.now.lemmas) c.args.k lemma || has (claim_of c.args.own.now) (λ (itself : Lemma). same_lemma itself lemma))) _ c.in-Some.clause.now c.args.used.now.atom (Some c.in-Some-get.atom.now) _ there refl at (c.if-frame_has.true ∙ sym (ap (λ (b : Bool). b || has (claim_of c.args.own.now) (λ (itself : Lemma). same_lemma itself (record { pred = c.in-Some-get.atom.now.pred; cube = c.args.used.now.lemma }))) (sym c.frame_has.ensures ∙ c.if-frame_has.true)))

pub returns-in-None-get : goal.returns-in-None-get
returns-in-None-get c =
    let found = c.in-Some.ensures.lookup in
    let there = rw c.clauses.ensures.is at (slice_get_read c.clauses.result.now (length c.clauses.result.now) c.args.number c.in-Some.clause.now refl found.3.0 found.1) in
    let at = rw c.as_slice.ensures at (slice_get_past c.as_slice.result.now c.args.used.now.atom c.in-None-get.ensures.lookup.3) in
    used-told (λ (o : Option Clause). has (on o (λ (clause : Clause). option_map (λ (atom : Atom). record { pred = atom.pred; cube = c.args.used.now.lemma }) (slice_get clause.atoms c.args.used.now.atom))) (λ (lemma : Lemma). frame_has (lemmas_of c.args.frames.now.lemmas) c.args.k lemma || has (claim_of c.args.own.now) (λ (itself : Lemma). same_lemma itself lemma))) (λ (o : Option Atom). has (option_map (λ (atom : Atom). record { pred = atom.pred; cube = c.args.used.now.lemma }) o) (λ (lemma : Lemma). frame_has (lemmas_of c.args.frames.now.lemmas) c.args.k lemma || has (claim_of c.args.own.now) (λ (itself : Lemma). same_lemma itself lemma))) _ c.in-Some.clause.now c.args.used.now.atom None _ there refl at refl

pub returns-in-None : goal.returns-in-None
returns-in-None c =
    let missing = rw c.clauses.ensures.is at (slice_get_past c.clauses.result.now c.args.number c.in-None.ensures.lookup.3) in
    sym (ap (λ (o : Option Clause). has (on o (λ (clause : Clause). option_map (λ (atom : Atom). record { pred = atom.pred; cube = c.args.used.now.lemma }) (slice_get clause.atoms c.args.used.now.atom))) (λ (lemma : Lemma). frame_has (lemmas_of c.args.frames.now.lemmas) c.args.k lemma || has (claim_of c.args.own.now) (λ (itself : Lemma). same_lemma itself lemma))) missing)
