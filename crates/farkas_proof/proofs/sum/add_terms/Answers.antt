use Rattle.std.proofs.Common.{◌≡◌, ◌<◌, ◌+◌, ◌-◌, ◌++◌, ap, sym, ◌∙◌, arith, drop, length, get_or, rules, FitsSigned}
use Rattle.std.specs.Prelude.{pos}
use Rattle.std.specs.Int.{w64}
use Rattle.std.proofs.lemmas.Int.{to_z-of_z}
use Rattle.lin_atoms.specs.Algebra.{collected, scaled_terms}
use Rattle.farkas_proof.specs.machinery.Sum.{seen}
use Rattle.farkas_proof.proofs.SumLemmas.{ordered-made, scaled-none, scaled-step}
use Rattle.farkas_proof.proofs.sum.add_terms.Goals as goal

pub loop-left-init : goal.loop-left-init
loop-left-init c =
    let k_fits : FitsSigned w64 c.args.k = c.ranges.k in
    record {
      value = simp to_z-of_z (scaled-none c.args.k c.args.added.now (seen c.args.terms.now.items) c.requires.ordered);
      counted = c.requires.counted;
      within = c.requires.within;
      more = omega arith;
      place = omega arith;
    }

pub loop-left-preserved : goal.loop-left-preserved
loop-left-preserved c =
    let k_fits : FitsSigned w64 c.args.k = c.ranges.k in
    let ts = c.args.added.now in
    let left = c.loop-left.left in
    let a = (get_or ts (left - 1) (0, pos 0)).1 in
    let a_fits : FitsSigned w64 a = search rules in
    let some : 0 < left = c.loop-left-test.true in
    let here : left - 1 < length ts = omega (arith, c.loop-left.invariant.place) in
    let more : left - 1 + 1 ≡ left = omega arith in
    let put = simp to_z-of_z at c.in_ok-add_product.ensures.value in
    let before = simp to_z-of_z at c.loop-left.invariant.value in
    record {
      value = simp to_z-of_z (put ∙ scaled-step c.args.k ts (seen c.args.terms.now.items) (seen c.loop-left.terms.items) (left - 1) (0, pos 0) here (before ∙ ap (λ n. collected (scaled_terms c.args.k (drop n ts) ++ seen c.args.terms.now.items)) (sym more)));
      counted = c.in_ok-add_product.ensures.counted;
      within = search rules;
      more = omega (arith, c.loop-left.invariant.more);
      place = omega (arith, c.loop-left.invariant.place);
    }

pub add_product-requires-clause-ordered : goal.add_product-requires-clause-ordered
add_product-requires-clause-ordered c =
    let k_fits : FitsSigned w64 c.args.k = c.ranges.k in
    let before = simp to_z-of_z at c.loop-left.invariant.value in
    ordered-made (seen c.loop-left.terms.items) (scaled_terms c.args.k (drop c.loop-left.left c.args.added.now) ++ seen c.args.terms.now.items) before
