use Rattle.std.proofs.Common.{◌≡◌, Option, ap, subst, true, ◌∙◌}
use Rattle.std.specs.Option.{IfSome}
use Rattle.refutation_trees.specs.declared.tree.Refutation.{Refutation}
use Rattle.lia_divisors.specs.machinery.Plain.{is_plain}
use Rattle.lia_divisors.proofs.PlainLemmas.{plain-split}
use Rattle.lia_divisors.proofs.written.put_over.Goals as goal

pub put_tree-requires-clause-plain : goal.put_tree-requires-clause-plain
put_tree-requires-clause-plain c =
    let high = subst (λ (o : Option Refutation). IfSome o (λ tree. is_plain tree ≡ true)) c.in-Some.is c.taken.ensures.plain in
    ap is_plain c.in_ok-made-in-Some.ensures ∙ plain-split c.args.lin c.args.low c.in-Some.high c.requires.plain high
