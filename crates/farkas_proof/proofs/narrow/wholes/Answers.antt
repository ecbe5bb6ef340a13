use Rattle.std.proofs.Common.{◌<◌, ◌++◌, ◌∷◌, [], ℕ, List, ap, sym, ◌∙◌, map, take, length, get_or, rules, FitsSigned}
use Rattle.std.specs.Prelude.{ℤ, pos}
use Rattle.std.specs.Int.{int_div_euclid, w64}
use Rattle.std.proofs.lemmas.Int.{to_z-of_z}
use Rattle.std.proofs.lemmas.List.{drop_all, take_all}
use Rattle.std.specs.List.{list_all}
use Rattle.lin_atoms.specs.Multiples.{is_multiple}
use Rattle.farkas_proof.proofs.NarrowLemmas.{divided-next, divided-so_far}
use Rattle.farkas_proof.proofs.SumLemmas.{whole-is}
use Rattle.farkas_proof.proofs.narrow.wholes.Goals as goal

pub loop-variable-preserved : goal.loop-variable-preserved
loop-variable-preserved c =
    let d_fits : FitsSigned w64 c.args.divisor = c.ranges.divisor in
    let q_fits : FitsSigned w64 c.in-Some.quotient = search rules in
    let d = c.args.divisor in
    let ts = c.args.terms.now in
    let i = c.loop-variable.variable-index in
    let v = (get_or ts i (0, pos 0)).0 in
    let a = (get_or ts i (0, pos 0)).1 in
    let a_fits : FitsSigned w64 a = search rules in
    let f : ℕ × ℤ → ℕ × ℤ = λ t. (t.0, int_div_euclid t.1 d) in
    let h : i < length ts = c.loop-variable-test.true in
    let is = whole-is a c.in-Some.quotient d c.requires (simp to_z-of_z at c.in-Some.ensures) in
    let pushed = simp to_z-of_z at c.in_ok-push-in-Some.ensures.items in
    let made = simp to_z-of_z at c.loop-variable.invariant.made in
    let told = simp to_z-of_z at c.loop-variable.invariant.told in
    simp to_z-of_z (record {
      made = pushed ∙ ap (λ (us : List (ℕ × ℤ)). us ++ (v, c.in-Some.quotient) ∷ []) made ∙ ap (λ q. map f (take i ts) ++ (v, q) ∷ []) is.0 ∙ sym (divided-so_far f ts i (0, pos 0) h);
      told = sym (divided-next d ts i (0, pos 0) h is.1) ∙ told;
    })

pub returns-clause-some : goal.returns-clause-some
returns-clause-some c =
    let d_fits : FitsSigned w64 c.args.divisor = c.ranges.divisor in
    let f : ℕ × ℤ → ℕ × ℤ = λ t. (t.0, int_div_euclid t.1 c.args.divisor) in
    let made = simp to_z-of_z at c.loop-variable.invariant.made in
    made ∙ ap (map f) (take_all c.loop-variable.variable-index c.args.terms.now c.loop-variable-test.false)

pub returns-clause-divided : goal.returns-clause-divided
returns-clause-divided c =
    let d_fits : FitsSigned w64 c.args.divisor = c.ranges.divisor in
    let told = simp to_z-of_z at c.loop-variable.invariant.told in
    sym told ∙ ap (λ (ts : List (ℕ × ℤ)). list_all (λ t. is_multiple c.args.divisor t.1) ts) (drop_all c.loop-variable.variable-index c.args.terms.now c.loop-variable-test.false)
