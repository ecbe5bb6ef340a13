use Rattle.std.proofs.Common.{◌≡◌, ap, subst, arith, refl}
use Rattle.std.specs.Option.{IsNone, IsSome}
use Rattle.std.specs.Prelude.{Option, None, Some, ℤ, pos, ◌<ℤ◌}
use Rattle.lin_atoms.specs.Ratio.{Fraction}
use Rattle.simplex_core.proofs.FractionLemmas.{fitting_numerator}
use Rattle.simplex_core.proofs.coordinate.Coordinate.lowest.Goals as goal

some_there : {X : Type 0} (o : Option X) → (IsNone o → ⊥) → IsSome o
some_there None h = absurd (h refl)
some_there (Some x) h = refl

pub unwrap-requires : goal.unwrap-requires
unwrap-requires c =
    let den : c.self.inside.den ≡ c.args.self.now.den = ap (λ (q : Fraction). q.den) c.self.view_is in
    let some : pos 0 <ℤ c.args.self.now.den = subst (λ (z : ℤ). pos 0 <ℤ z) den c.self.invariant in
    let there = fitting_numerator c.args.self.now some c.requires in
    some_there c.ratio.result (λ none. let large = c.ratio.ensures.wide none there.0 there.1 in let small = there.2 in absurd (omega arith))
