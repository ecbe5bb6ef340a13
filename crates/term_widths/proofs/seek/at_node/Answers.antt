use Rattle.std.proofs.Common.{◌<◌, length, true, false, sym, ◌∙◌, arith}
use Rattle.term_tables.specs.machinery.Table.{constant_in}
use Rattle.term_forms.specs.Found.{naming_in}
use Rattle.term_widths.proofs.SeekLemmas.{clear_more, parts_narrow, parts_there, seek_by_node}
use Rattle.term_widths.proofs.seek.at_node.Goals as goal

pub is_wide_relation-requires-clause-there : goal.is_wide_relation-requires-clause-there
is_wide_relation-requires-clause-there c =
    let within : c.args.id.0 < length c.args.terms.now.nodes = c.requires.there in
    parts_there c.args.id.0 (length c.args.terms.now.nodes) c.node-node.result.now (omega (arith, within)) c.node-node.ensures.below

pub is_wide_relation-requires-clause-narrow : goal.is_wide_relation-requires-clause-narrow
is_wide_relation-requires-clause-narrow c =
    parts_narrow (constant_in c.args.constants.now) (naming_in c.args.names.now.own.items c.args.names.now.auxiliary) c.args.terms.now.nodes c.args.id.0 c.node-node.result.now
    c.node-node.ensures.is c.node-node.ensures.below c.requires.narrow

pub returns-then-branch-clause-told : goal.returns-then-branch-clause-told
returns-then-branch-clause-told c =
    sym (seek_by_node (constant_in c.args.constants.now) (naming_in c.args.names.now.own.items c.args.names.now.auxiliary) c.args.terms.now.nodes c.args.id.0 c.node-node.result.now true
    c.node-node.ensures.is c.node-node.ensures.below (c.requires.parts c.node-node.result.now c.node-node.ensures.is) (sym c.if-branch.true ∙ c.in_ok-is_wide_relation.ensures.told))

pub returns-clause-told : goal.returns-clause-told
returns-clause-told c =
    sym (seek_by_node (constant_in c.args.constants.now) (naming_in c.args.names.now.own.items c.args.names.now.auxiliary) c.args.terms.now.nodes c.args.id.0 c.node-node.result.now false
    c.node-node.ensures.is c.node-node.ensures.below (c.requires.parts c.node-node.result.now c.node-node.ensures.is) (sym c.if-branch.false ∙ c.in_ok-is_wide_relation.ensures.told))

pub returns-clause-seen : goal.returns-clause-seen
returns-clause-seen c =
    let constant = constant_in c.args.constants.now in
    let naming = naming_in c.args.names.now.own.items c.args.names.now.auxiliary in
    let nodes = c.args.terms.now.nodes in
    clear_more constant naming nodes c.args.seen.now c.keep.new.seen c.args.id.0 c.requires.seen
    (seek_by_node constant naming nodes c.args.id.0 c.node-node.result.now false
    c.node-node.ensures.is c.node-node.ensures.below (c.requires.parts c.node-node.result.now c.node-node.ensures.is) (sym c.if-branch.false ∙ c.in_ok-is_wide_relation.ensures.told))
    c.in_ok-keep.ensures.others
