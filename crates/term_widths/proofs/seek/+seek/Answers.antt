use Rattle.std.proofs.Common.{◌≡◌, List, ap, sym, ◌∙◌, subst, arith}
use Rattle.std.specs.Prelude.{IsTrue}
use Rattle.std.specs.List.{list_all}
use Rattle.term_tree.specs.declared.node.TermId.{TermId}
use Rattle.term_tree.specs.Arena.{is_below}
use Rattle.linear_terms.specs.Width.{first_among, first_where, text_parts}
use Rattle.term_tables.specs.machinery.Table.{constant_in}
use Rattle.term_forms.specs.Found.{naming_in}
use Rattle.term_forms.proofs.ReadingLemmas.{all_below}
use Rattle.term_widths.specs.Wide.{has_wide_sides, numbered}
use Rattle.term_widths.specs.machinery.Seen.{AreNarrowTerms}
use Rattle.term_widths.proofs.SeekLemmas.{leaf_clear, parts_narrow, seek_by_parts}
use Rattle.term_widths.proofs.seek.+seek.Goals as goal

pub seek-seek_all-requires : goal.seek-seek_all-requires
seek-seek_all-requires t c =
    let constant = constant_in c.args.constants.now in
    let naming = naming_in c.args.names.now.own.items c.args.names.now.auxiliary in
    let nodes = c.args.terms.now.nodes in
    let parts : c.as_slice.result.now ≡ text_parts c.node-node.result.now = c.as_slice.ensures.value ∙ c.in_ok-parts.ensures in
    let below = subst (λ (ids : List TermId). IsTrue (list_all (is_below c.args.id.0) ids)) (sym parts) (all_below c.args.id.0 c.node-node.result.now c.node-node.ensures.below) in
    let narrow = subst (λ (ids : List TermId). AreNarrowTerms constant naming nodes ids) (sym parts)
    (parts_narrow constant naming nodes c.args.id.0 c.node-node.result.now c.node-node.ensures.is c.node-node.ensures.below c.requires.narrow) in (
      let d = c.decreases in omega (arith, d),
      (c.requires.there, (below, (narrow, (c.requires.known, c.requires.seen)))),
    )

pub seek-returns-in-Some-clause-told : goal.seek-returns-in-Some-clause-told
seek-returns-in-Some-clause-told t c =
    let constant = constant_in c.args.constants.now in
    let naming = naming_in c.args.names.now.own.items c.args.names.now.auxiliary in
    let nodes = c.args.terms.now.nodes in
    let node = c.node-node.result.now in
    let parts : c.as_slice.result.now ≡ text_parts node = c.as_slice.ensures.value ∙ c.in_ok-parts.ensures in
    let told : numbered c.in_ok-found.field-0 ≡ first_among (first_where (has_wide_sides constant naming nodes) nodes) c.as_slice.result.now = c.in_ok-found.ensures.told in
    sym (seek_by_parts constant naming nodes c.args.id.0 node c.in-Some.found.0 c.node-node.ensures.is c.node-node.ensures.below
    (ap (first_among (first_where (has_wide_sides constant naming nodes) nodes)) (sym parts) ∙ sym told ∙ ap numbered c.in-Some.is))

pub seek_part-returns-then-is_leaf-clause-told : goal.seek_part-returns-then-is_leaf-clause-told
seek_part-returns-then-is_leaf-clause-told t c =
    let constant = constant_in c.args.constants.now in
    let naming = naming_in c.args.names.now.own.items c.args.names.now.auxiliary in
    let nodes = c.args.terms.now.nodes in
    let node = c.node-node.result.now in
    sym (leaf_clear constant naming nodes c.args.id.0 node c.node-node.ensures.is c.node-node.ensures.below (sym c.is_leaf.ensures ∙ c.if-is_leaf.true))
