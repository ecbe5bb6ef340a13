use Rattle.std.proofs.Common.{◌≡◌, ◌≤◌, ◌<◌, inl, inr, length, true, ap, sym, ◌∙◌, subst, arith, rules}
use Rattle.std.proofs.lemmas.Bool.{cases_lt}
use Rattle.std.proofs.lemmas.Option.{slice_get_within}
use Rattle.std.specs.Prelude.{slice_get}
use Rattle.term_tree.specs.declared.node.Node.{Node}
use Rattle.term_tree.specs.Solution.{has_short_divisor}
use Rattle.clause_normal.proofs.OccurLemmas.{same_node}
use Rattle.test_clauses.proofs.definitions.has_no_divisor.Goals as goal

pub loop-i-preserved : goal.loop-i-preserved
loop-i-preserved c = λ id node less at. elim (cases_lt id c.loop-i.i) [
  | inl before ↦ c.loop-i.invariant id node before at
  | inr past ↦
      let nodes = c.args.terms.now.nodes in
      let number : c.in-Ok.number ≡ c.loop-i.i = search rules in
      let same : c.in-Ok.number ≡ id = omega (arith, number, less, past) in
      let passes : has_short_divisor c.node.result.now ≡ true = search rules in
      subst (λ (n : Node). has_short_divisor n ≡ true) (same_node c.node.result.now node (sym c.node.ensures.is ∙ ap (slice_get nodes) same ∙ at)) passes
]

pub returns : goal.returns
returns c = λ told id node at.
    let nodes = c.args.terms.now.nodes in
    let within : id < length nodes = slice_get_within nodes id node at in
    let past : length nodes ≤ c.loop-i.i = search rules in
    c.loop-i.invariant id node (omega (arith, within, past)) at
