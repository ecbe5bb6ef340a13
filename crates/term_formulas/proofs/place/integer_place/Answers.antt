use Rattle.std.proofs.Common.{◌≡◌, ap, sym, ◌∙◌, subst}
use Rattle.std.specs.Prelude.{Option, Some, IfOk}
use Rattle.term_tree.specs.declared.node.Node.{Node}
use Rattle.term_tree.specs.declared.node.Node.TheVariants.{Op}
use Rattle.linear_terms.specs.Linear.{bit_of, variable_form}
use Rattle.linear_terms.specs.Place.{integer_place}
use Rattle.lin_atoms.specs.declared.form.Form.{Form}
use Rattle.term_forms.specs.Found.{form_by}
use Rattle.term_tables.specs.machinery.Table.{constant_in}
use Rattle.term_formulas.specs.Written.{naming_by, value_by}
use Rattle.term_formulas.specs.machinery.Parts.{is_shaped, is_unit_node}
use Rattle.term_formulas.proofs.ArgumentLemmas.{no_unit_other, place_other}
use Rattle.term_formulas.proofs.place.integer_place.Goals as goal

pub operation_place-requires-clause-node : goal.operation_place-requires-clause-node
operation_place-requires-clause-node c = c.node.ensures.is ∙ ap (λ (n : Node). Some n) (c.in-Op.is ∙ ap (Op c.in-Op.op) (sym c.as_slice.ensures))

pub operation_place-requires-clause-shaped : goal.operation_place-requires-clause-shaped
operation_place-requires-clause-shaped c = ap is_shaped (sym (c.node.ensures.is ∙ ap (λ (n : Node). Some n) (c.in-Op.is ∙ ap (Op c.in-Op.op) (sym c.as_slice.ensures)))) ∙ c.requires.shaped

pub returns-in-Op-clause-is : goal.returns-in-Op-clause-is
returns-in-Op-clause-is c =
    subst (λ (node : Option Node). IfOk c.operation_place.result (λ form. form ≡ integer_place (bit_of (naming_by c.args.names.now) c.args.terms.now.nodes) (form_by (constant_in c.args.constants.now) (naming_by c.args.names.now) c.args.terms.now.nodes) (value_by (constant_in c.args.constants.now)) (variable_form c.args.v) c.args.id.0 node)) (sym (c.node.ensures.is ∙ ap (λ (n : Node). Some n) (c.in-Op.is ∙ ap (Op c.in-Op.op) (sym c.as_slice.ensures)))) c.operation_place.ensures.is

pub of_form-requires-clause-sum : goal.of_form-requires-clause-sum
of_form-requires-clause-sum c = ap is_unit_node c.node.ensures.is ∙ no_unit_other c.node.result.now (λ op args same. c.in_default.not-Op op args same)

pub returns-in_default-clause-is : goal.returns-in_default-clause-is
returns-in_default-clause-is c =
    subst (λ (f : Form). IfOk c.of_form.result (λ form. form ≡ f))
    (sym (ap (integer_place (bit_of (naming_by c.args.names.now) c.args.terms.now.nodes) (form_by (constant_in c.args.constants.now) (naming_by c.args.names.now) c.args.terms.now.nodes) (value_by (constant_in c.args.constants.now)) (variable_form c.args.v) c.args.id.0) c.node.ensures.is ∙ place_other (bit_of (naming_by c.args.names.now) c.args.terms.now.nodes) (form_by (constant_in c.args.constants.now) (naming_by c.args.names.now) c.args.terms.now.nodes) (value_by (constant_in c.args.constants.now)) (variable_form c.args.v) c.args.id.0 c.node.result.now (λ op args same. c.in_default.not-Op op args same))) c.of_form.ensures.is
