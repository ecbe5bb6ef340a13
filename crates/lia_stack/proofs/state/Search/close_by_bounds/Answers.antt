use Rattle.std.proofs.Common.{◌+◌, ◌<◌, ◌≤◌, ◌^◌, List, length, ℕ, ap, ◌∙◌, refl, subst, sym}
use Rattle.std.specs.List.{list_all}
use Rattle.base.specs.Limits.{most_rows}
use Rattle.lin_atoms.specs.declared.lit.Lit.{Lit}
use Rattle.int_rows.specs.Node.{end_of_quotients}
use Rattle.simplex_core.specs.Meaning.{IsConflict}
use Rattle.lia_node.specs.Known.{are_known, has_short_constant}
use Rattle.lia_node.specs.Nodes.{node_table}
use Rattle.lia_stack.proofs.StateLemmas.{closed-bounds, closes-named, named-keeps, top-few, top-known, top-short}
use Rattle.lia_stack.proofs.TurnLemmas.{top}
use Rattle.lia_stack.proofs.state.Search.close_by_bounds.Goals as goal

pub close-requires-clause-known : goal.close-requires-clause-known
close-requires-clause-known c = ap (are_known c.name.new.self.end) c.as_slice.ensures ∙ top-known c.name.new.self c.name.new.waiting (top _ _ c.in_ok-name.ensures.is)

pub close-requires-clause-short : goal.close-requires-clause-short
close-requires-clause-short c = ap (list_all has_short_constant) c.as_slice.ensures ∙ top-short c.name.new.self c.name.new.waiting (top _ _ c.in_ok-name.ensures.is)

pub close-requires-clause-few : goal.close-requires-clause-few
close-requires-clause-few c =
    let n = c.in_ok-name.ensures in
    let s = c.name.new.self in
    let few = named-keeps (λ q lits. end_of_quotients q lits ≤ q + most_rows) c.args.self.now s c.args.waiting.now c.name.new.waiting n c.requires.few in
    subst (λ (lits : List Lit). end_of_quotients s.end lits < 2 ^ 32) (sym c.as_slice.ensures) (top-few s c.name.new.waiting (top _ _ n.is) few)

pub close-requires-clause-each : goal.close-requires-clause-each
close-requires-clause-each c = ap (λ (ns : List ℕ). length ns) c.as_slice-2.ensures ∙ c.in_ok-name.ensures.full ∙ sym (ap (λ (lits : List Lit). length lits) c.as_slice.ensures)

pub close-requires-clause-conflict : goal.close-requires-clause-conflict
close-requires-clause-conflict c =
    let s = c.name.new.self in
    subst (λ (lits : List Lit). IsConflict (node_table s.end lits) c.args.multipliers.now) (sym c.as_slice.ensures)
    (named-keeps (λ q lits. IsConflict (node_table q lits) c.args.multipliers.now) c.args.self.now s c.args.waiting.now c.name.new.waiting c.in_ok-name.ensures c.requires.conflict)

pub returns : goal.returns
returns c =
    let n = c.in_ok-name.ensures in
    closes-named c.args.self.now c.name.new.self _ c.args.waiting.now c.name.new.waiting n
    (closed-bounds c.name.new.self _ c.name.new.waiting c.as_slice.result.now c.as_slice-2.result.now c.in_ok-tree.tree (top _ _ n.is) n.full c.as_slice.ensures c.as_slice-2.ensures c.in_ok-tree.ensures refl c.in_ok-push.ensures.items)
