use Rattle.std.proofs.Common.{◌≡◌, Option, subst, true}
use Rattle.std.specs.Option.{IfSome}
use Rattle.refutation_trees.specs.declared.tree.Refutation.{Refutation}
use Rattle.lia_divisors.specs.machinery.Plain.{is_plain}
use Rattle.lia_divisors.proofs.written.put_split.Goals as goal

pub put_over-requires-clause-plain : goal.put_over-requires-clause-plain
put_over-requires-clause-plain c = subst (λ (o : Option Refutation). IfSome o (λ tree. is_plain tree ≡ true)) c.in-Some.is c.taken.ensures.plain
