use Rattle.std.proofs.Common.{ℕ, List, [], ◌∷◌, ◌++◌, ap, sym, ◌∙◌, rules, get_or, map, FitsSigned}
use Rattle.std.specs.Prelude.{ℤ, pos}
use Rattle.std.specs.Int.{int_div_euclid, w64}
use Rattle.std.proofs.lemmas.Int.{to_z-of_z}
use Rattle.std.proofs.lemmas.List.{take_all}
use Rattle.int_rows.proofs.MadeLemmas.{mapped-more}
use Rattle.int_rows.proofs.making.divided.Goals as goal

pub loop-variable-preserved : goal.loop-variable-preserved
loop-variable-preserved c =
    let ts = c.args.terms.now in
    let i = c.loop-variable.variable-index in
    let t : ℕ × ℤ = get_or ts i (0, pos 0) in
    let f : ℕ × ℤ → ℕ × ℤ = λ t. (t.0, int_div_euclid t.1 c.args.divisor) in
    let d_fits : FitsSigned w64 c.args.divisor = c.ranges.divisor in
    let a_fits : FitsSigned w64 (get_or ts i (0, pos 0)).1 = search rules in
    let p_fits : FitsSigned w64 c.part.result = record { sfits = c.part.type_inv } in
    let pushed = simp to_z-of_z at c.in_ok-push.ensures.items in
    let is = simp to_z-of_z at c.part.ensures in
    let before = simp to_z-of_z at c.loop-variable.invariant in
    simp to_z-of_z (pushed ∙ ap (λ (z : ℤ). c.loop-variable.made.items ++ (t.0, z) ∷ []) is ∙ ap (λ (us : List (ℕ × ℤ)). us ++ f t ∷ []) before ∙ sym (mapped-more f ts i (0, pos 0) c.loop-variable-test.true))

pub returns : goal.returns
returns c =
    let d_fits : FitsSigned w64 c.args.divisor = c.ranges.divisor in
    let f : ℕ × ℤ → ℕ × ℤ = λ t. (t.0, int_div_euclid t.1 c.args.divisor) in
    let made = simp to_z-of_z at c.loop-variable.invariant in
    made ∙ ap (map f) (take_all c.loop-variable.variable-index c.args.terms.now c.loop-variable-test.false)
