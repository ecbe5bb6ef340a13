use Rattle.std.proofs.Common.{◌≡◌, ◌≤◌, ◌<◌, inl, inr, length, ap, sym, ◌∙◌, arith, rules}
use Rattle.std.proofs.lemmas.Bool.{cases_lt}
use Rattle.std.proofs.lemmas.Option.{slice_get_within}
use Rattle.std.specs.Prelude.{slice_get, Some}
use Rattle.term_tree.specs.declared.node.Node.{Node}
use Rattle.term_tree.specs.declared.node.Node.TheVariants.{Divisible}
use Rattle.chc_checker.proofs.reading.divisors_fit.Goals as goal

same_node : (a b : Node) → Some a ≡ Some b → a ≡ b
same_node a b e = cc

pub loop-i-preserved : goal.loop-i-preserved
loop-i-preserved c = λ id by arg less at. elim (cases_lt id c.loop-i.i) [
  | inl before ↦ c.loop-i.invariant id by arg before at
  | inr past ↦
      let nodes = c.args.terms.now.nodes in
      let number : c.in-Ok.number ≡ c.loop-i.i = search rules in
      let same : c.in-Ok.number ≡ id = omega (arith, number, less, past) in
      c.divisor_fits.ensures by arg (same_node c.node.result.now (Divisible by arg) (sym c.node.ensures.is ∙ ap (slice_get nodes) same ∙ at))
]

pub returns : goal.returns
returns c = λ id by arg small at.
    let within : id < length c.args.terms.now.nodes = slice_get_within c.args.terms.now.nodes id (Divisible by arg) at in
    let past : length c.args.terms.now.nodes ≤ c.loop-i.i = search rules in
    c.loop-i.invariant id by arg (omega (arith, within, past)) at
