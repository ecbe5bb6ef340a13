use Rattle.std.proofs.Common.{◌≡◌, ◌+◌, ◌++◌, length, ap, ◌∙◌, subst, length-append, arith, rules, ◌∷◌, []}
use Rattle.std.specs.Prelude.{ℕ, slice_get, Some, true}
use Rattle.term_tree.specs.Arena.{has_parts_below}
use Rattle.horn_shape.proofs.FlagLemmas.{flags_more, flags_all}
use Rattle.horn_shape.proofs.plain.PlainTerms.of.Goals as goal

pub loop-i-preserved : goal.loop-i-preserved
loop-i-preserved c =
    let nodes = c.args.terms.now.nodes in
    let node = c.node.result.now in
    let same : c.in-Ok.number ≡ c.loop-i.i = search rules in
    let flag = c.node_is_plain-flag.result in
    let pushed : c.push.new.self.items ≡ c.loop-i.flags.items ++ flag ∷ [] = search rules in
    record {
      long = ap length pushed ∙ length-append c.loop-i.flags.items (flag ∷ []) ∙ ap (λ (k : ℕ). k + 1) c.loop-i.invariant.long;
      known = flags_more nodes c.loop-i.flags.items c.push.new.self.items c.loop-i.i node flag
          (subst (λ (k : ℕ). slice_get nodes k ≡ Some node) same c.node.ensures.is) (subst (λ (k : ℕ). has_parts_below k node ≡ true) same c.node.ensures.below)
          c.loop-i.invariant.long c.loop-i.invariant.known (search rules) pushed;
    }

pub returns : goal.returns
returns c = flags_all c.args.terms.now.nodes c.loop-i.flags.items c.loop-i.i c.loop-i.invariant.long (omega arith) c.loop-i.invariant.known
