use Rattle.std.proofs.Common.{◌≡◌, Option, sym, subst, true, ◌∙◌}
use Rattle.std.specs.Option.{IfSome}
use Rattle.refutation_trees.specs.declared.tree.Refutation.{Refutation}
use Rattle.lia_divisors.specs.machinery.Plain.{is_plain}
use Rattle.lia_divisors.proofs.MovedLemmas.{tree-moved}
use Rattle.lia_divisors.proofs.closing.checked.Goals as goal

pub returns-in-Ok : goal.returns-in-Ok
returns-in-Ok c end place long are =
    let plain = subst (λ (o : Option Refutation). IfSome o (λ tree. is_plain tree ≡ true)) c.in-Some.is c.in_ok-made.ensures in
    tree-moved c.in_ok-form.form c.in-Some.tree c.in_ok-filled.filled.items end place (c.in_ok-form.ensures ∙ c.as_slice.ensures.value) plain
    (c.in_ok-filled.ensures.stands place.known are) (c.in_ok-filled.ensures.long ∙ sym long) c.in-Ok.ensures.narrow
