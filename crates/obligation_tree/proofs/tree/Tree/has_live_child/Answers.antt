use Rattle.std.proofs.Common.{◌≡◌, ◌<◌, ◌&&◌, length, not, true, false, rules, ap, subst, sym, ◌∙◌}
use Rattle.std.proofs.lemmas.List.{get_or_default}
use Rattle.obligation_tree.specs.Nodes.{TreeState, absent, has_live_child, is_live, is_live_at, leaf_numbers}
use Rattle.obligation_tree.specs.machinery.Passes.{is_among}
use Rattle.obligation_tree.proofs.LawLemmas.{leaves-ascend}
use Rattle.obligation_tree.proofs.LeafLemmas.{child-told}
use Rattle.obligation_tree.proofs.tree.Tree.has_live_child.Goals as goal

pub is_among-requires : goal.is_among-requires
is_among-requires c =
    let xs = c.self.inside.nodes in
    let leaves : c.as_slice.result.now ≡ leaf_numbers xs = search rules in
    rw leaves (leaves-ascend xs)

pub returns-then-is_live : goal.returns-then-is_live
returns-then-is_live c =
    let xs = c.self.inside.nodes in
    let id = c.args.id in
    let within : id < length xs = subst (λ (s : TreeState). id < length s.nodes) (sym c.self.view_is) c.requires in
    let live : is_live_at xs id ≡ true = ap is_live (sym (c.get.ensures ∙ get_or_default xs id c.get.result.now absent within)) ∙ sym c.is_live.ensures ∙ c.if-is_live.true in
    let leaves : c.as_slice.result.now ≡ leaf_numbers xs = search rules in
    ap not (c.is_among.ensures ∙ ap (λ ns. is_among id ns) leaves)
    ∙ ap (λ b. b && not (is_among id (leaf_numbers xs))) (sym live)
    ∙ sym (child-told xs id c.self.invariant.tree within)
    ∙ ap (λ (s : TreeState). has_live_child s.nodes id) c.self.view_is

pub returns-else-is_live : goal.returns-else-is_live
returns-else-is_live c =
    let xs = c.self.inside.nodes in
    let id = c.args.id in
    let within : id < length xs = subst (λ (s : TreeState). id < length s.nodes) (sym c.self.view_is) c.requires in
    let closed : is_live_at xs id ≡ false = ap is_live (sym (c.get.ensures ∙ get_or_default xs id c.get.result.now absent within)) ∙ sym c.is_live.ensures ∙ c.if-is_live.false in
    c.if-is_live.false
    ∙ ap (λ b. b && not (is_among id (leaf_numbers xs))) (sym closed)
    ∙ sym (child-told xs id c.self.invariant.tree within)
    ∙ ap (λ (s : TreeState). has_live_child s.nodes id) c.self.view_is
