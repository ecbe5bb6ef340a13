use Rattle.std.proofs.Common.{◌≡◌, ap, sym, ◌∙◌, subst}
use Rattle.std.specs.Prelude.{Some, IfOk}
use Rattle.std.proofs.lemmas.Bool.{eqb-true}
use Rattle.term_tree.specs.declared.node.OpKind.{OpKind}
use Rattle.term_tree.specs.declared.node.Node.TheVariants.{Op}
use Rattle.lin_atoms.specs.declared.form.Form.{Form}
use Rattle.linear_terms.specs.Linear.{bit_of, variable_form}
use Rattle.term_forms.specs.Found.{form_by}
use Rattle.term_tables.specs.machinery.Table.{constant_in}
use Rattle.term_formulas.specs.Written.{naming_by, value_by}
use Rattle.term_formulas.specs.machinery.Parts.{is_shaped, is_unit_node}
use Rattle.term_formulas.proofs.ArgumentLemmas.{no_unit_operation, other_place}
use Rattle.term_formulas.proofs.place.operation_place.Goals as goal

pub of_choice-requires-clause-shaped : goal.of_choice-requires-clause-shaped
of_choice-requires-clause-shaped c = eqb-true _ _ (ap (λ (op : OpKind). is_shaped (Some (Op op c.args.args.now))) (sym c.in-Ite.is) ∙ c.requires.shaped)

pub of_abs-requires-clause-shaped : goal.of_abs-requires-clause-shaped
of_abs-requires-clause-shaped c = eqb-true _ _ (ap (λ (op : OpKind). is_shaped (Some (Op op c.args.args.now))) (sym c.in-Abs.is) ∙ c.requires.shaped)

pub of_quotient-requires-clause-shaped : goal.of_quotient-requires-clause-shaped
of_quotient-requires-clause-shaped c = eqb-true _ _ (ap (λ (op : OpKind). is_shaped (Some (Op op c.args.args.now))) (sym c.in-Div.is) ∙ c.requires.shaped)

pub of_remainder-requires-clause-shaped : goal.of_remainder-requires-clause-shaped
of_remainder-requires-clause-shaped c = eqb-true _ _ (ap (λ (op : OpKind). is_shaped (Some (Op op c.args.args.now))) (sym c.in-Mod.is) ∙ c.requires.shaped)

pub of_form-requires-clause-sum : goal.of_form-requires-clause-sum
of_form-requires-clause-sum c = ap is_unit_node c.requires.node ∙ no_unit_operation c.args.op c.args.args.now c.in_default.not-Ite c.in_default.not-Abs c.in_default.not-Div c.in_default.not-Mod

pub returns-in_default-clause-is : goal.returns-in_default-clause-is
returns-in_default-clause-is c =
    subst (λ (f : Form). IfOk c.of_form.result (λ form. form ≡ f))
    (sym (other_place (bit_of (naming_by c.args.names.now) c.args.terms.now.nodes) (form_by (constant_in c.args.constants.now) (naming_by c.args.names.now) c.args.terms.now.nodes) (value_by (constant_in c.args.constants.now)) (variable_form c.args.v) c.args.id.0 c.args.op c.args.args.now c.in_default.not-Ite c.in_default.not-Abs c.in_default.not-Div c.in_default.not-Mod)) c.of_form.ensures.is
