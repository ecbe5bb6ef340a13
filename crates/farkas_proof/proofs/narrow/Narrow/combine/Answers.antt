use Rattle.std.proofs.Common.{true, arith, ap, sym, ◌∙◌, ◌≡◌, ◌+◌, ◌-◌, ◌<◌, drop, length, get_or, FitsSigned, rules}
use Rattle.std.specs.Prelude.{pos}
use Rattle.std.specs.Int.{w64}
use Rattle.std.proofs.lemmas.Int.{to_z-of_z}
use Rattle.lin_atoms.specs.Algebra.{added, scaled}
use Rattle.lin_atoms.specs.Linear.{Linear}
use Rattle.refutation_trees.specs.Combination.{are_multipliers, combined, linear_at}
use Rattle.farkas_proof.specs.machinery.Narrow.{sum_of}
use Rattle.farkas_proof.proofs.SumLemmas.{combined-more, multipliers-more}
use Rattle.farkas_proof.proofs.narrow.Narrow.combine.Goals as goal

pub loop-left-preserved : goal.loop-left-preserved
loop-left-preserved c =
    let ms = c.args.multipliers.now in
    let lits = c.args.lits.now in
    let left = c.loop-left.left in
    let which = (get_or ms (left - 1) (0, pos 0)).0 in
    let k = (get_or ms (left - 1) (0, pos 0)).1 in
    let k_fits : FitsSigned w64 k = search rules in
    let some : 0 < left = c.loop-left-test.true in
    let here : left - 1 < length ms = omega (arith, c.loop-left.invariant.place) in
    let more : left - 1 + 1 ≡ left = omega arith in
    let known = simp to_z-of_z at c.in-Some.ensures.some in
    let done : c.add_multiple.result ≡ true = search rules in
    let sum = simp to_z-of_z at (c.add_multiple.ensures.value done) in
    record {
      legal = multipliers-more lits ms (left - 1) (0, pos 0) here known.0 (ap (λ n. are_multipliers lits (drop n ms)) more ∙ c.loop-left.invariant.legal);
      value = sum ∙ ap (λ (lin : Linear). added (scaled k lin) (sum_of c.loop-left.self)) known.1
          ∙ ap (λ (rest : Linear). added (scaled k (linear_at lits which)) rest) (c.loop-left.invariant.value ∙ ap (λ n. combined lits (drop n ms)) (sym more))
          ∙ sym (combined-more lits ms (left - 1) (0, pos 0) here);
      ordered = c.add_multiple.ensures.ordered done;
      place = omega (arith, c.loop-left.invariant.place);
    }
