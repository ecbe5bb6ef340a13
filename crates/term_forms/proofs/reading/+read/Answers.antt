use Rattle.std.proofs.Common.{◌≡◌, List, [], ap, sym, ◌∙◌, subst}
use Rattle.std.specs.Prelude.{Some, Ok, Err}
use Rattle.term_tree.specs.declared.node.TermId.{TermId}
use Rattle.lin_atoms.specs.Linear.{Linear}
use Rattle.linear_terms.specs.Width.{text_parts}
use Rattle.term_tables.specs.machinery.Table.{constant_in}
use Rattle.term_forms.specs.Found.{Tells, naming_in}
use Rattle.term_forms.specs.machinery.Reading.{TellsAll, each, formed, judged, reading, told_reading}
use Rattle.term_forms.proofs.ReadingLemmas.{kept_more, leaf_parts, part_stops, parts_tell}
use Rattle.term_forms.proofs.reading.+read.Goals as goal

pub read_form-returns-in-Err-clause-told : goal.read_form-returns-in-Err-clause-told
read_form-returns-in-Err-clause-told t c =
    let constant = constant_in c.args.constants.now in
    let naming = naming_in c.args.names.now.own.items c.args.names.now.auxiliary in
    let nodes = c.args.terms.now.nodes in
    let parts : c.as_slice.result.now ≡ text_parts c.node-node.result.now = c.as_slice.ensures.value ∙ c.in_ok-parts.ensures in
    part_stops constant naming nodes c.args.id.0 c.node-node.result.now c.node-node.ensures.is c.node-node.ensures.below c.in-Err.stop
    (subst (λ (ids : List TermId). TellsAll (each (told_reading constant naming nodes) [] ids) (Err c.in-Err.stop)) parts c.in-Err.ensures.told)

pub read_form-returns-in-Err-of_node-clause-told : goal.read_form-returns-in-Err-of_node-clause-told
read_form-returns-in-Err-of_node-clause-told t c =
    let constant = constant_in c.args.constants.now in
    let naming = naming_in c.args.names.now.own.items c.args.names.now.auxiliary in
    let nodes = c.args.terms.now.nodes in
    let node = c.node-node.result.now in
    let id = c.args.id.0 in
    let parts : c.as_slice.result.now ≡ text_parts node = c.as_slice.ensures.value ∙ c.in_ok-parts.ensures in
    parts_tell constant naming nodes id node c.node-node.ensures.is c.node-node.ensures.below c.in-Ok.forms (Err c.in-Err-of_node.stop)
    (subst (λ (ids : List TermId). each (told_reading constant naming nodes) [] ids ≡ Ok c.in-Ok.forms) parts c.in-Ok.ensures.told)
    (subst (λ (forms : List Linear). Tells (judged id (formed constant naming node id forms)) (Err c.in-Err-of_node.stop)) c.as_slice-in-Ok.ensures c.in-Err-of_node.ensures)

pub read_form-returns-clause-told : goal.read_form-returns-clause-told
read_form-returns-clause-told t c =
    let constant = constant_in c.args.constants.now in
    let naming = naming_in c.args.names.now.own.items c.args.names.now.auxiliary in
    let nodes = c.args.terms.now.nodes in
    let node = c.node-node.result.now in
    let id = c.args.id.0 in
    let parts : c.as_slice.result.now ≡ text_parts node = c.as_slice.ensures.value ∙ c.in_ok-parts.ensures in
    parts_tell constant naming nodes id node c.node-node.ensures.is c.node-node.ensures.below c.in-Ok.forms (Ok c.in-Ok-of_node.form)
    (subst (λ (ids : List TermId). each (told_reading constant naming nodes) [] ids ≡ Ok c.in-Ok.forms) parts c.in-Ok.ensures.told)
    (subst (λ (forms : List Linear). Tells (judged id (formed constant naming node id forms)) (Ok c.in-Ok-of_node.form)) c.as_slice-in-Ok.ensures c.in-Ok-of_node.ensures)

pub read_form-returns-clause-known : goal.read_form-returns-clause-known
read_form-returns-clause-known t c =
    let constant = constant_in c.args.constants.now in
    let naming = naming_in c.args.names.now.own.items c.args.names.now.auxiliary in
    let nodes = c.args.terms.now.nodes in
    let node = c.node-node.result.now in
    let id = c.args.id.0 in
    let parts : c.as_slice.result.now ≡ text_parts node = c.as_slice.ensures.value ∙ c.in_ok-parts.ensures in
    let read : reading constant naming nodes id ≡ Ok c.in-Ok-of_node.form =
    parts_tell constant naming nodes id node c.node-node.ensures.is c.node-node.ensures.below c.in-Ok.forms (Ok c.in-Ok-of_node.form)
    (subst (λ (ids : List TermId). each (told_reading constant naming nodes) [] ids ≡ Ok c.in-Ok.forms) parts c.in-Ok.ensures.told)
    (subst (λ (forms : List Linear). Tells (judged id (formed constant naming node id forms)) (Ok c.in-Ok-of_node.form)) c.as_slice-in-Ok.ensures c.in-Ok-of_node.ensures) in
    kept_more constant naming nodes c.read_forms.new.known c.keep.new.known id c.in-Ok-of_node.form c.in-Ok.ensures.known read
    (c.in_ok-keep-in-Ok-of_node.ensures.here ∙ ap (λ (form : Linear). Some form) c.in_ok-copy-in-Ok-of_node.ensures) c.in_ok-keep-in-Ok-of_node.ensures.others

pub read_part-returns-then-is_leaf-clause-told : goal.read_part-returns-then-is_leaf-clause-told
read_part-returns-then-is_leaf-clause-told t c =
    let constant = constant_in c.args.constants.now in
    let naming = naming_in c.args.names.now.own.items c.args.names.now.auxiliary in
    let nodes = c.args.terms.now.nodes in
    let node = c.node-node.result.now in
    parts_tell constant naming nodes c.args.id.0 node c.node-node.ensures.is c.node-node.ensures.below [] c.of_node.result
    (ap (each (told_reading constant naming nodes) []) (leaf_parts node (sym c.is_leaf.ensures ∙ c.if-is_leaf.true))) c.of_node.ensures
