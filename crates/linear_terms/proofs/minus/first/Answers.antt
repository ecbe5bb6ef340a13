use Rattle.std.proofs.Common.{◌≡◌, rules, arith, get_or, FitsSigned}
use Rattle.std.specs.Prelude.{pos, neg_ℤ, ◌-ℤ◌}
use Rattle.std.specs.Int.{w64, w128}
use Rattle.std.proofs.lemmas.Int.{ints, to_z-of_z}
use Rattle.linear_terms.proofs.MinusLemmas.{both-meet, ours-before, theirs-before}
use Rattle.linear_terms.proofs.minus.first.Goals as goal

pub returns-then-variable-other-clause-difference : goal.returns-then-variable-other-clause-difference
returns-then-variable-other-clause-difference c =
    let a_fits : FitsSigned w64 (get_or c.args.ours.now c.args.i (0, pos 0)).1 = search rules in
    let r_fits : FitsSigned w128 c.from.result = search rules in
    let widened = simp to_z-of_z at c.from.ensures in
    simp to_z-of_z (rw widened (ours-before c.args.ours.now c.args.theirs.now c.args.i c.args.j (0, pos 0) c.requires.i c.requires.j c.requires.ours c.requires.theirs c.if-variable-other.true))

pub returns-then-other-variable-clause-difference : goal.returns-then-other-variable-clause-difference
returns-then-other-variable-clause-difference c =
    let b = (get_or c.args.theirs.now c.args.j (0, pos 0)).1 in
    let b_fits : FitsSigned w64 b = search rules in
    let r_fits : FitsSigned w128 c.from-then-other-variable.result = search rules in
    let widened = simp to_z-of_z at c.from-then-other-variable.ensures in
    let turned : neg_ℤ b ≡ pos 0 -ℤ c.from-then-other-variable.result = omega (arith, ints, widened) in
    let fits : FitsSigned w128 (pos 0 -ℤ c.from-then-other-variable.result) = omega (arith, ints, widened) in
    let is = theirs-before c.args.ours.now c.args.theirs.now c.args.i c.args.j (0, pos 0) c.requires.i c.requires.j c.requires.ours c.requires.theirs c.if-other-variable.true in
    simp to_z-of_z (rw turned at is)

pub returns-else-other-variable-clause-difference : goal.returns-else-other-variable-clause-difference
returns-else-other-variable-clause-difference c =
    let a = (get_or c.args.ours.now c.args.i (0, pos 0)).1 in
    let b = (get_or c.args.theirs.now c.args.j (0, pos 0)).1 in
    let a_fits : FitsSigned w64 a = search rules in
    let b_fits : FitsSigned w64 b = search rules in
    let r_fits : FitsSigned w128 c.from-else-other-variable.result = search rules in
    let s_fits : FitsSigned w128 c.from-else-other-variable-2.result = search rules in
    let r = simp to_z-of_z at c.from-else-other-variable.ensures in
    let s = simp to_z-of_z at c.from-else-other-variable-2.ensures in
    let fits : FitsSigned w128 (c.from-else-other-variable.result -ℤ c.from-else-other-variable-2.result) = omega (arith, ints) in
    let same : (get_or c.args.ours.now c.args.i (0, pos 0)).0 ≡ (get_or c.args.theirs.now c.args.j (0, pos 0)).0 = omega (arith, c.if-variable-other.false, c.if-other-variable.false) in
    simp to_z-of_z (rw (r, s) (both-meet c.args.ours.now c.args.theirs.now c.args.i c.args.j (0, pos 0) c.requires.i c.requires.j c.requires.ours c.requires.theirs same))
