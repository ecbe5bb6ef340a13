use Rattle.std.proofs.Common.{ap, subst, sym, ◌∙◌, ◌≡◌, [], Option, Some}
use Rattle.std.specs.Option.{IfSome}
use Rattle.lin_atoms.specs.Linear.{Linear}
use Rattle.lin_atoms.specs.declared.lit.Lit.TheVariants.{Eq}
use Rattle.int_rows.specs.Ready.{less_multiple}
use Rattle.lia_divisors.proofs.ThereLemmas.{at-first}
use Rattle.lia_divisors.proofs.said.put_whole.Goals as goal

pub returns-in_ok-put-in-Some : goal.returns-in_ok-put-in-Some
returns-in_ok-put-in-Some c known are at =
    let made = subst (λ (o : Option Linear). IfSome o (λ less. less ≡ less_multiple c.args.n c.args.q c.args.lin.now)) c.in-Some.is c.in_ok-less.ensures in
    c.in_ok-put-in-Some.ensures known are (at-first known c.args.reason _ [] at ∙ ap (λ (l : Linear). Some (Eq l)) (sym made))
