use Rattle.std.proofs.Common.{◌++◌, ◌∷◌, [], ap, ◌∙◌, arith, rules, get_or, length, ◌<◌, FitsSigned}
use Rattle.std.specs.Prelude.{pos}
use Rattle.std.specs.Int.{w64, w128}
use Rattle.std.proofs.lemmas.Int.{to_z-of_z}
use Rattle.model_project.proofs.TermLemmas.{multiple-end, multiple-more}
use Rattle.model_project.proofs.terms.push_rest.Goals as goal

pub loop-i-preserved : goal.loop-i-preserved
loop-i-preserved c =
    let i = c.loop-i.i in
    let k = c.args.k in
    let ts = c.args.terms.now in
    let made = c.loop-i.made.items in
    let k_fits : FitsSigned w64 k = c.ranges.k in
    let a_fits : FitsSigned w64 (get_or ts i (0, pos 0)).1 = search rules in
    let p_fits : FitsSigned w128 c.product-multiple.result = search rules in
    let h : i < length ts = c.loop-i-test.true in
    let product = simp to_z-of_z at c.product-multiple.ensures.value in
    let pushed = simp to_z-of_z at c.in_ok-push.ensures.items in
    let told = simp to_z-of_z at c.loop-i.invariant.told in
    simp to_z-of_z (record {
      told = multiple-more k ts made c.push.new.self.items _ i (0, pos 0) c.requires.some c.requires.rising h (pushed ∙ ap (λ z. made ++ ((get_or ts i (0, pos 0)).0, z) ∷ []) product) told;
      within = omega (arith, h);
    })

pub returns : goal.returns
returns c =
    let k_fits : FitsSigned w64 c.args.k = c.ranges.k in
    multiple-end c.args.k c.args.terms.now c.loop-i.made.items _ c.loop-i.i c.requires.some c.requires.rising (search rules) (simp to_z-of_z at c.loop-i.invariant.told)
