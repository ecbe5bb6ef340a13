use Rattle.std.proofs.Common.{◌≡◌, ◌-◌, ◌^◌, ◌<◌, List, [], ◌∷◌, ◌++◌, ◌==◌, true, not, length, filter, rules, ap, ap₂, sym, subst, ◌∙◌}
use Rattle.obligation_tree.specs.Nodes.{TreeState, is_live_at}
use Rattle.obligation_tree.specs.declared.node.Node.{Node}
use Rattle.obligation_tree.specs.machinery.Passes.{IsKept}
use Rattle.obligation_tree.proofs.ShapeLemmas.{kept-added}
use Rattle.obligation_tree.proofs.tree.Tree.add.Goals as goal

pub invariant_of-self-2 : goal.invariant_of-self-2
invariant_of-self-2 c =
    let xs = c.self.inside.nodes in
    let o = c.args.obligation in
    let next = c.in_ok-index.index in
    let live : is_live_at xs o.parent ≡ true = ap (λ (s : TreeState). is_live_at s.nodes o.parent) c.self.view_is ∙ c.requires.parent in
    let lives : next.live.items ≡ c.self.inside.index.live.items ++ length xs ∷ [] = search rules in
    let leaves : next.leaves.items ≡ filter (λ leaf. not (o.parent == leaf)) c.self.inside.index.leaves.items ++ length xs ∷ [] = search rules in
    rw (c.in_ok-push.ensures.ok, c.in_ok-node.ensures) (kept-added xs c.self.inside.index next o live c.requires.pred lives leaves c.self.invariant)

pub push-requires : goal.push-requires
push-requires c = subst (λ (s : TreeState). length s.nodes < 2 ^ 32 - 1) (sym c.self.view_is) c.requires.room

pub invariant_of-self : goal.invariant_of-self
invariant_of-self c = subst (λ (ns : List Node). IsKept ns c.self.inside.index) (sym c.in_err-push.ensures.err) c.self.invariant

pub returns-clause-number : goal.returns-clause-number
returns-clause-number c = c.count-number.ensures ∙ ap (λ (s : TreeState). length s.nodes) c.self.view_is

pub returns-clause-ok : goal.returns-clause-ok
returns-clause-ok c =
    let state : List Node → TreeState = λ ns. record { nodes = ns; claims = c.self.inside.claims } in
    ap state c.in_ok-push.ensures.ok ∙ ap₂ (λ (n : Node) (s : TreeState). record s { nodes = s.nodes ++ n ∷ [] }) c.in_ok-node.ensures c.self.view_is
