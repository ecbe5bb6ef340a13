use Rattle.std.proofs.Common.{◌≡◌, List, sym, subst, arith}
use Rattle.std.specs.Prelude.{Some, IfOk}
use Rattle.term_tree.specs.declared.node.TermId.{TermId}
use Rattle.term_tree.specs.declared.node.OpKind.TheVariants.{Abs}
use Rattle.term_tree.specs.declared.node.Node.TheVariants.{Op}
use Rattle.linear_terms.specs.Linear.{bit_of, variable_form}
use Rattle.linear_terms.specs.Place.{integer_place}
use Rattle.term_forms.specs.Found.{form_by}
use Rattle.term_tables.specs.machinery.Table.{constant_in}
use Rattle.term_formulas.specs.Written.{naming_by, value_by}
use Rattle.term_formulas.proofs.ArgumentLemmas.{among_at, one_id}
use Rattle.term_formulas.proofs.place.of_abs.Goals as goal

pub abs_of-requires-clause-part : goal.abs_of-requires-clause-part
abs_of-requires-clause-part c = (Op Abs c.args.args.now, c.requires.node, among_at c.args.args.now 0 (record { 0 = 0 }) (let three = c.in-len1.len_at_least in omega (arith, three)))

pub returns-clause-is : goal.returns-clause-is
returns-clause-is c =
    subst (λ (ids : List TermId). IfOk c.abs_of.result (λ form. form ≡ integer_place (bit_of (naming_by c.args.names.now) c.args.terms.now.nodes) (form_by (constant_in c.args.constants.now) (naming_by c.args.names.now) c.args.terms.now.nodes) (value_by (constant_in c.args.constants.now)) (variable_form c.args.v) c.args.id.0 (Some (Op Abs ids))))
    (sym (one_id c.args.args.now (record { 0 = 0 }) c.in-len1.len_at_least c.in-len1.len_below)) c.abs_of.ensures.is
