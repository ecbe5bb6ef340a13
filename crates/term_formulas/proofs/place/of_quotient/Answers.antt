use Rattle.std.proofs.Common.{◌≡◌, List, get_or, sym, subst, arith}
use Rattle.std.specs.Prelude.{Some, IfOk}
use Rattle.term_tree.specs.declared.node.TermId.{TermId}
use Rattle.term_tree.specs.declared.node.OpKind.TheVariants.{Div as Quotient}
use Rattle.term_tree.specs.declared.node.Node.TheVariants.{Op}
use Rattle.linear_terms.specs.Linear.{bit_of, variable_form}
use Rattle.linear_terms.specs.Place.{integer_place}
use Rattle.term_forms.specs.Found.{form_by}
use Rattle.term_tables.specs.machinery.Table.{constant_in}
use Rattle.term_formulas.specs.Written.{naming_by, value_by}
use Rattle.term_formulas.proofs.ArgumentLemmas.{among_at, two_ids}
use Rattle.term_formulas.proofs.RoomLemmas.{constant_short, made_room}
use Rattle.term_formulas.proofs.place.of_quotient.Goals as goal

pub quotient_of-requires-clause-part : goal.quotient_of-requires-clause-part
quotient_of-requires-clause-part c = (Op Quotient c.args.args.now, c.requires.node, among_at c.args.args.now 0 (record { 0 = 0 }) (let three = c.in-len2.len_at_least in omega (arith, three)))

pub quotient_of-requires-clause-short : goal.quotient_of-requires-clause-short
quotient_of-requires-clause-short c = constant_short (constant_in c.args.constants.now) (naming_by c.args.names.now) c.args.terms.now.nodes c.arena_law.ensures.arena (get_or c.args.args.now 1 (record { 0 = 0 })).0 (made_room (constant_in c.args.constants.now) (naming_by c.args.names.now) c.args.terms.now.nodes c.args.id.0 (get_or c.args.args.now 1 (record { 0 = 0 })).0 c.arena_law.ensures.arena c.requires.room (Op Quotient c.args.args.now, c.requires.node, among_at c.args.args.now 1 (record { 0 = 0 }) (let three = c.in-len2.len_at_least in omega (arith, three))))

pub returns-clause-is : goal.returns-clause-is
returns-clause-is c =
    subst (λ (ids : List TermId). IfOk c.quotient_of.result (λ form. form ≡ integer_place (bit_of (naming_by c.args.names.now) c.args.terms.now.nodes) (form_by (constant_in c.args.constants.now) (naming_by c.args.names.now) c.args.terms.now.nodes) (value_by (constant_in c.args.constants.now)) (variable_form c.args.v) c.args.id.0 (Some (Op Quotient ids))))
    (sym (two_ids c.args.args.now (record { 0 = 0 }) c.in-len2.len_at_least c.in-len2.len_below)) c.quotient_of.ensures.is
