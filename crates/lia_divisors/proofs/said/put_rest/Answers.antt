use Rattle.std.proofs.Common.{ap, subst, sym, ◌∙◌, ◌+◌, ◌≡◌, [], ◌∷◌, Option, Some, ℕ}
use Rattle.std.specs.Prelude.{slice_get, pos, ◌-ℤ◌}
use Rattle.std.specs.Option.{IfSome}
use Rattle.lin_atoms.specs.Algebra.{plus}
use Rattle.lin_atoms.specs.Linear.{Linear}
use Rattle.lin_atoms.specs.declared.lit.Lit.TheVariants.{Le}
use Rattle.int_rows.specs.Ready.{less_multiple}
use Rattle.refutation_trees.specs.Combination.{one_minus}
use Rattle.lia_divisors.proofs.ThereLemmas.{at-first, at-second}
use Rattle.lia_divisors.proofs.said.put_rest.Goals as goal

pub returns-in_ok-put_below-in-Some : goal.returns-in_ok-put_below-in-Some
returns-in_ok-put_below-in-Some c known are at =
    let made = subst (λ (o : Option Linear). IfSome o (λ less. less ≡ less_multiple c.args.n c.args.q c.args.lin.now)) c.in-Some.is c.in_ok-less.ensures in
    let first = c.in_ok-put_above-in-Some.ensures known are (at-first known c.args.reason _ (_ ∷ []) at ∙ ap (λ (l : Linear). Some (Le (one_minus l))) (sym made)) in
    let next : c.in_ok-added-in-Some.field-0 ≡ c.args.reason + 1 = c.in_ok-added-in-Some.ensures in
    c.in_ok-put_below-in-Some.ensures known first (ap (λ (n : ℕ). slice_get known n) next ∙ at-second known c.args.reason _ _ [] at ∙ ap (λ (l : Linear). Some (Le (plus l (pos 1 -ℤ pos c.args.n)))) (sym made))
