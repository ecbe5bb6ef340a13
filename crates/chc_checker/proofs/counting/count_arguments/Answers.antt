use Rattle.std.proofs.Common.{◌≡◌, ◌≤◌, ◌<◌, inl, inr, length, ap, sym, ◌∙◌, arith, rules}
use Rattle.std.proofs.lemmas.Bool.{cases_lt}
use Rattle.std.proofs.lemmas.Option.{slice_get_within}
use Rattle.std.specs.Prelude.{slice_get, Some}
use Rattle.term_tree.specs.declared.node.Node.{Node}
use Rattle.term_tree.specs.declared.node.Node.TheVariants.{Op}
use Rattle.chc_checker.proofs.counting.count_arguments.Goals as goal

same_node : (a b : Node) → Some a ≡ Some b → a ≡ b
same_node a b e = cc

pub loop-i-preserved : goal.loop-i-preserved
loop-i-preserved c = λ id op args less at. elim (cases_lt id c.loop-i.i) [
  | inl before ↦ c.loop-i.invariant id op args before at
  | inr past ↦
      let nodes = c.args.terms.now.nodes in
      let number : c.in-Ok.number ≡ c.loop-i.i = search rules in
      let same : c.in-Ok.number ≡ id = omega (arith, number, less, past) in
      c.count_own.ensures op args (same_node c.node.result.now (Op op args) (sym c.node.ensures.is ∙ ap (slice_get nodes) same ∙ at))
]

pub returns : goal.returns
returns c = λ id op args small at.
    let within : id < length c.args.terms.now.nodes = slice_get_within c.args.terms.now.nodes id (Op op args) at in
    let past : length c.args.terms.now.nodes ≤ c.loop-i.i = search rules in
    c.loop-i.invariant id op args (omega (arith, within, past)) at
