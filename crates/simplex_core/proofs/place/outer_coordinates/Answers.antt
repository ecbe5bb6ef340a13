use Rattle.std.proofs.Common.{◌≡◌, ap, ap₂, sym, ◌∙◌, arith, ◌<◌, ◌+◌, ◌++◌, rules, get_or, length, map, take, FitsSigned, [], ◌∷◌}
use Rattle.std.specs.Prelude.{ℤ, pos}
use Rattle.std.specs.Int.{w128}
use Rattle.std.proofs.lemmas.Int.{to_z-of_z}
use Rattle.std.proofs.lemmas.List.{map-append, take_all, take_more}
use Rattle.simplex_core.specs.machinery.Filled.{integer}
use Rattle.simplex_core.proofs.place.outer_coordinates.Goals as goal

pub loop-value-preserved : goal.loop-value-preserved
loop-value-preserved c =
    let vs = c.args.values.now in
    let i = c.loop-value.value-index in
    let fits : FitsSigned w128 (get_or vs i (pos 0)) = search rules in
    let made = simp to_z-of_z at c.integer.ensures in
    c.in_ok-push.ensures.items ∙ ap₂ (λ xs x. xs ++ x ∷ []) c.loop-value.invariant made
    ∙ sym (ap (map integer) (take_more vs i (pos 0) c.loop-value-test.true) ∙ map-append integer (take i vs) (get_or vs i (pos 0) ∷ []))

pub returns : goal.returns
returns c = c.loop-value.invariant ∙ ap (map integer) (take_all c.loop-value.value-index c.args.values.now c.loop-value-test.false)
