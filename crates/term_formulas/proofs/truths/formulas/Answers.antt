use Rattle.std.proofs.Common.{◌≡◌, [], ◌∷◌, true, false, subst}
use Rattle.std.specs.Prelude.{IfOk}
use Rattle.lin_atoms.specs.declared.form.Form.{Form}
use Rattle.term_tables.specs.machinery.Table.{constant_in, sort_in}
use Rattle.term_formulas.specs.Written.{naming_by}
use Rattle.term_formulas.proofs.RoomLemmas.{room_sides}
use Rattle.term_formulas.proofs.TruthLemmas.{related_formula}
use Rattle.term_formulas.proofs.truths.formulas.Goals as goal

pub of_both_sides-requires-clause-sides : goal.of_both_sides-requires-clause-sides
of_both_sides-requires-clause-sides c =
    let r = c.in-Some.relation in
    room_sides (constant_in c.args.constants.now) (naming_by c.args.names.now) c.args.terms.now.nodes c.args.id.0 r.op (r.first ∷ r.second ∷ []) c.arena_law.ensures.arena c.requires.room c.in-Some.ensures.node

pub returns-in-Some-clause-holds : goal.returns-in-Some-clause-holds
returns-in-Some-clause-holds c =
    let r = c.in-Some.relation in
    subst (λ (f : Form). IfOk c.of_both_sides.result (λ both. both.holds ≡ f))
    (related_formula (constant_in c.args.constants.now) (sort_in c.args.sorts.now) (naming_by c.args.names.now) c.args.terms.now.nodes c.args.id.0 r.op r.first r.second true c.arena_law.ensures.arena
    c.in-Some.ensures.node c.in-Some.ensures.numbers c.in-Some.ensures.relation) c.of_both_sides.ensures.holds

pub returns-in-Some-clause-fails : goal.returns-in-Some-clause-fails
returns-in-Some-clause-fails c =
    let r = c.in-Some.relation in
    subst (λ (f : Form). IfOk c.of_both_sides.result (λ both. both.fails ≡ f))
    (related_formula (constant_in c.args.constants.now) (sort_in c.args.sorts.now) (naming_by c.args.names.now) c.args.terms.now.nodes c.args.id.0 r.op r.first r.second false c.arena_law.ensures.arena
    c.in-Some.ensures.node c.in-Some.ensures.numbers c.in-Some.ensures.relation) c.of_both_sides.ensures.fails
