use Rattle.std.proofs.Common.{ap, ◌∙◌}
use Rattle.std.specs.List.{list_all}
use Rattle.lia_node.specs.Known.{are_known, has_short_constant}
use Rattle.lia_stack.proofs.Public.{top, top-known, top-short}
use Rattle.lia_search.proofs.running.near.Goals as goal

pub point_near-requires-clause-known : goal.point_near-requires-clause-known
point_near-requires-clause-known c = ap (are_known c.args.search.now.end) c.as_slice.ensures ∙ top-known c.args.search.now c.args.waiting (top _ _ c.requires.is)

pub point_near-requires-clause-short : goal.point_near-requires-clause-short
point_near-requires-clause-short c = ap (list_all has_short_constant) c.as_slice.ensures ∙ top-short c.args.search.now c.args.waiting (top _ _ c.requires.is)

pub point_near-requires-clause-few : goal.point_near-requires-clause-few
point_near-requires-clause-few c = c.requires.is.small
