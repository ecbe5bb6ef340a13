use Rattle.std.proofs.Common.{◌≡◌, ℕ, ◌+◌, [], ◌∷◌, ◌++◌, length, ap, sym, ◌∙◌, subst, length-append, rules}
use Rattle.std.specs.Prelude.{slice_get, Option, Some, true}
use Rattle.term_tree.specs.Arena.{has_parts_below}
use Rattle.term_tables.specs.machinery.Table.{constant_in}
use Rattle.term_widths.specs.machinery.Room.{bound_in, node_bound}
use Rattle.term_widths.specs.machinery.Word.{kept}
use Rattle.term_widths.proofs.BoundLemmas.{bounds_more, kept_is, node_is}
use Rattle.term_widths.proofs.room_table.RoomTable.of.Goals as goal

pub loop-i-preserved : goal.loop-i-preserved
loop-i-preserved c =
    let nodes = c.args.terms.now.nodes in
    let constant = constant_in c.args.constants.now in
    let node = c.node.result.now in
    let known = c.loop-i.bounds.items in
    let same : c.in-Ok.number ≡ c.loop-i.i = search rules in
    let bound : Option ℕ = c.node_bound-bound.result in
    let pushed : c.push.new.self.items ≡ known ++ kept bound ∷ [] = search rules in
    let found : bound ≡ node_bound constant (bound_in known) node = search rules in
    let is : slice_get nodes c.loop-i.i ≡ Some node = subst (λ (k : ℕ). slice_get nodes k ≡ Some node) same c.node.ensures.is in
    let below : has_parts_below c.loop-i.i node ≡ true = subst (λ (k : ℕ). has_parts_below k node ≡ true) same c.node.ensures.below in
    record {
      long = ap length pushed ∙ length-append known (kept bound ∷ []) ∙ ap (λ (k : ℕ). k + 1) c.loop-i.invariant.long;
      known = bounds_more constant nodes known c.push.new.self.items c.loop-i.i (kept bound) c.loop-i.invariant.long c.loop-i.invariant.known
          (λ b e. node_is constant nodes known c.loop-i.invariant.known c.loop-i.i node b is below (sym found ∙ kept_is bound b e)) pushed;
    }
