use Rattle.std.proofs.Common.{◌≡◌, rules, arith, get_or, FitsSigned}
use Rattle.std.specs.Prelude.{pos}
use Rattle.std.specs.Int.{w64, w128}
use Rattle.std.proofs.lemmas.Int.{to_z-of_z}
use Rattle.model_project.proofs.TermLemmas.{both-next, ours-next, theirs-next}
use Rattle.model_project.proofs.terms.first.Goals as goal

pub returns-then-variable-other-clause-sum : goal.returns-then-variable-other-clause-sum
returns-then-variable-other-clause-sum c =
    let k_fits : FitsSigned w64 c.args.k = c.ranges.k in
    let m_fits : FitsSigned w64 c.args.m = c.ranges.m in
    let a_fits : FitsSigned w64 (get_or c.args.ours.now c.args.i (0, pos 0)).1 = search rules in
    let r_fits : FitsSigned w128 c.product.result = search rules in
    let product = simp to_z-of_z at c.product.ensures.value in
    simp to_z-of_z (rw product (ours-next c.args.k c.args.m c.args.ours.now c.args.theirs.now c.args.i c.args.j (0, pos 0) c.requires.k_some c.requires.m_some c.requires.i c.requires.j c.requires.ours c.requires.theirs c.if-variable-other.true))

pub returns-then-other-variable-clause-sum : goal.returns-then-other-variable-clause-sum
returns-then-other-variable-clause-sum c =
    let k_fits : FitsSigned w64 c.args.k = c.ranges.k in
    let m_fits : FitsSigned w64 c.args.m = c.ranges.m in
    let b_fits : FitsSigned w64 (get_or c.args.theirs.now c.args.j (0, pos 0)).1 = search rules in
    let r_fits : FitsSigned w128 c.product-then-other-variable.result = search rules in
    let product = simp to_z-of_z at c.product-then-other-variable.ensures.value in
    simp to_z-of_z (rw product (theirs-next c.args.k c.args.m c.args.ours.now c.args.theirs.now c.args.i c.args.j (0, pos 0) c.requires.k_some c.requires.m_some c.requires.i c.requires.j c.requires.ours c.requires.theirs c.if-other-variable.true))

pub returns-else-other-variable-clause-sum : goal.returns-else-other-variable-clause-sum
returns-else-other-variable-clause-sum c =
    let k_fits : FitsSigned w64 c.args.k = c.ranges.k in
    let m_fits : FitsSigned w64 c.args.m = c.ranges.m in
    let a_fits : FitsSigned w64 (get_or c.args.ours.now c.args.i (0, pos 0)).1 = search rules in
    let b_fits : FitsSigned w64 (get_or c.args.theirs.now c.args.j (0, pos 0)).1 = search rules in
    let r_fits : FitsSigned w128 c.products.result = search rules in
    let sum = simp to_z-of_z at c.products.ensures in
    let same : (get_or c.args.ours.now c.args.i (0, pos 0)).0 ≡ (get_or c.args.theirs.now c.args.j (0, pos 0)).0 = omega (arith, c.if-variable-other.false, c.if-other-variable.false) in
    simp to_z-of_z (rw sum (both-next c.args.k c.args.m c.args.ours.now c.args.theirs.now c.args.i c.args.j (0, pos 0) c.requires.k_some c.requires.m_some c.requires.i c.requires.j c.requires.ours c.requires.theirs same))
