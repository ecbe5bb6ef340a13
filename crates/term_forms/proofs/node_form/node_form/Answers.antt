use Rattle.std.proofs.Common.{◌≡◌, List, map, true, ap, sym, ◌∙◌, subst}
use Rattle.std.specs.Prelude.{OnOk}
use Rattle.term_tree.specs.declared.node.TermId.{TermId}
use Rattle.term_tree.specs.declared.node.Node.{Node}
use Rattle.lin_atoms.specs.Linear.{Linear}
use Rattle.linear_terms.specs.Linear.{auxiliary_form, is_narrow, operation_form}
use Rattle.term_tables.specs.machinery.Table.{constant_in}
use Rattle.term_forms.specs.Found.{naming_in}
use Rattle.term_forms.specs.machinery.Reading.{formed}
use Rattle.term_forms.proofs.node_form.node_form.Goals as goal

pub returns-in-Op-clause-narrow : goal.returns-in-Op-clause-narrow
returns-in-Op-clause-narrow c =
    let constant = constant_in c.args.constants.now in
    let naming = naming_in c.args.names.now.own.items c.args.names.now.auxiliary in
    let same = ap (λ (args : List TermId). operation_form c.in-Op.op (auxiliary_form (naming.auxiliary c.args.own.0)) (map (λ (arg : TermId). constant arg.0) args) c.args.forms.now) c.as_slice.ensures
    ∙ ap (λ (node : Node). formed constant naming node c.args.own.0 c.args.forms.now) (sym c.in-Op.is) in
    subst (λ (form : Linear). OnOk c.operation.result (is_narrow form ≡ true)) same c.operation.ensures.narrow

pub returns-in-Op-clause-wide : goal.returns-in-Op-clause-wide
returns-in-Op-clause-wide c = λ stopped.
    let constant = constant_in c.args.constants.now in
    let naming = naming_in c.args.names.now.own.items c.args.names.now.auxiliary in
    let same = ap (λ (args : List TermId). operation_form c.in-Op.op (auxiliary_form (naming.auxiliary c.args.own.0)) (map (λ (arg : TermId). constant arg.0) args) c.args.forms.now) c.as_slice.ensures
    ∙ ap (λ (node : Node). formed constant naming node c.args.own.0 c.args.forms.now) (sym c.in-Op.is) in
    ap is_narrow (sym same) ∙ c.operation.ensures.wide stopped
