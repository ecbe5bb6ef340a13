use Rattle.std.proofs.Common.{◌≡◌, map, true, ap, sym, ◌∙◌, subst}
use Rattle.std.specs.Prelude.{Ok, Err}
use Rattle.term_tree.specs.declared.script.Pred.{Pred as Declared}
use Rattle.clause_form.specs.declared.clause.Clause.{Clause}
use Rattle.clause_form.specs.System.{is_clause}
use Rattle.clause_normal.proofs.ReadingLemmas.{normal_refused, own_number, read_made}
use Rattle.clause_normal.proofs.SystemLemmas.{kept_here}
use Rattle.clause_normal.proofs.reading.read_normal.Goals as goal

pub normal_with-requires : goal.normal_with-requires
normal_with-requires c = record { legal = c.requires.legal; own = own_number c.args.script.now c.args.index c.args.clause.now c.requires.clause; kept = c.requires.tables }

pub returns-in-Ok-clause-kept : goal.returns-in-Ok-clause-kept
returns-in-Ok-clause-kept c =
    let script = c.args.script.now in
    subst (λ (made : Clause). is_clause (map (λ (p : Declared). p.args) script.preds) made ≡ true) (sym c.in-Ok.ensures.made)
    (kept_here script c.args.index c.args.clause.now c.arena_law.ensures.arena c.requires.legal c.requires.clause c.args.assertion c.requires.there c.has_number.ensures c.requires.few c.in-Ok.ensures.room c.in-Ok.ensures.few)

pub returns-in-Ok-clause-made : goal.returns-in-Ok-clause-made
returns-in-Ok-clause-made c =
    read_made c.args.script.now c.args.index c.args.clause.now c.requires.clause c.args.assertion c.requires.there c.in-Ok.ensures.room c.in-Ok.ensures.few ∙ ap (λ (made : Clause). Ok made) (sym c.in-Ok.ensures.made)

pub returns-in-Err-clause-refused : goal.returns-in-Err-clause-refused
returns-in-Err-clause-refused c = λ refusal is.
    normal_refused c.args.script.now c.args.index c.args.clause.now c.requires.clause c.args.assertion c.requires.there c.in-Err.stop c.not_normal.result refusal c.not_normal.ensures (cc)
    (λ offset e. c.in-Err.ensures.wide offset (ap (λ s. Err s) e)) (λ offset e. c.in-Err.ensures.count offset (ap (λ s. Err s) e))
