use Rattle.std.proofs.Common.{arith, ap, refl, sym, ◌∙◌, ◌≡◌, ◌+◌, ◌-◌, ◌<◌, drop, length, get_or, FitsSigned, rules}
use Rattle.std.specs.Prelude.{pos}
use Rattle.std.specs.Int.{w64}
use Rattle.std.proofs.lemmas.Int.{to_z-of_z}
use Rattle.lin_atoms.specs.Algebra.{added, scaled}
use Rattle.lin_atoms.specs.Linear.{Linear}
use Rattle.refutation_trees.specs.Combination.{are_multipliers, combined, linear_at}
use Rattle.farkas_proof.specs.machinery.Sum.{standing}
use Rattle.farkas_proof.proofs.SumLemmas.{combined-more, multipliers-fail, multipliers-more}
use Rattle.farkas_proof.proofs.sum.combine.Goals as goal

pub loop-left-preserved : goal.loop-left-preserved
loop-left-preserved c =
    let ms = c.args.multipliers.now in
    let lits = c.args.lits.now in
    let left = c.loop-left.left in
    let which = (get_or ms (left - 1) (0, pos 0)).0 in
    let k = (get_or ms (left - 1) (0, pos 0)).1 in
    let k_fits : FitsSigned w64 k = search rules in
    let some : 0 < left = c.loop-left-test.true in
    let here : left - 1 < length ms = omega (arith, c.loop-left.invariant.place) in
    let more : left - 1 + 1 ≡ left = omega arith in
    let known = simp to_z-of_z at c.in-Some.ensures.some in
    let sum = simp to_z-of_z at c.in_ok-add_multiple-in-Some.ensures.value in
    record {
      legal = multipliers-more lits ms (left - 1) (0, pos 0) here known.0 (ap (λ n. are_multipliers lits (drop n ms)) more ∙ c.loop-left.invariant.legal);
      value = sum ∙ ap (λ (lin : Linear). added (scaled k lin) (standing c.loop-left.sum.terms.items c.loop-left.sum.negated)) known.1
          ∙ ap (λ (rest : Linear). added (scaled k (linear_at lits which)) rest) (c.loop-left.invariant.value ∙ ap (λ n. combined lits (drop n ms)) (sym more))
          ∙ sym (combined-more lits ms (left - 1) (0, pos 0) here);
      fine = c.in_ok-add_multiple-in-Some.ensures.fine;
      place = omega (arith, c.loop-left.invariant.place);
    }

pub returns-in-None-clause-legal : goal.returns-in-None-clause-legal
returns-in-None-clause-legal c =
    let ms = c.args.multipliers.now in
    let left = c.loop-left.left in
    let k = (get_or ms (left - 1) (0, pos 0)).1 in
    let k_fits : FitsSigned w64 k = search rules in
    let some : 0 < left = c.loop-left-test.true in
    let here : left - 1 < length ms = omega (arith, c.loop-left.invariant.place) in
    let known = simp to_z-of_z at c.in-None.ensures.none in
    sym (multipliers-fail c.args.lits.now ms (left - 1) (0, pos 0) here (known refl))
