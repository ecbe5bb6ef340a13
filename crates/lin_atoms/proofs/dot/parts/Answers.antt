use lib.Signed.{shr_z}
use Rattle.std.proofs.Common.{◌^◌, FitsSigned}
use Rattle.std.specs.Prelude.{pos, ◌-ℤ◌, ◌*ℤ◌}
use Rattle.std.specs.Int.{w128}
use Rattle.std.proofs.lemmas.Int.{to_z-of_z}
use Rattle.lin_atoms.proofs.DotLemmas.{parts_of, parts-whole}
use Rattle.lin_atoms.proofs.dot.parts.Goals as goal

pub overflow_sub-result : goal.overflow_sub-result
overflow_sub-result c =
    let n_fits : FitsSigned w128 c.args.n = c.ranges.n in
    let parts = parts_of c.args.n n_fits in
    let high_fits : FitsSigned w128 (shr_z c.args.n (2 ^ 64)) = parts.high_fits in
    let multiple_fits : FitsSigned w128 (shr_z c.args.n (2 ^ 64) *ℤ pos (2 ^ 64)) = parts.multiple_fits in
    simp to_z-of_z parts.rest_fits

pub overflow_cast-result : goal.overflow_cast-result
overflow_cast-result c =
    let n_fits : FitsSigned w128 c.args.n = c.ranges.n in
    let parts = parts_of c.args.n n_fits in
    let high_fits : FitsSigned w128 (shr_z c.args.n (2 ^ 64)) = parts.high_fits in
    let multiple_fits : FitsSigned w128 (shr_z c.args.n (2 ^ 64) *ℤ pos (2 ^ 64)) = parts.multiple_fits in
    let rest_fits : FitsSigned w128 (c.args.n -ℤ shr_z c.args.n (2 ^ 64) *ℤ pos (2 ^ 64)) = parts.rest_fits in
    simp to_z-of_z (rw parts.whole (tt, record { fits = parts.natural }))

pub returns-clause-value : goal.returns-clause-value
returns-clause-value c =
    let n_fits : FitsSigned w128 c.args.n = c.ranges.n in
    let parts = parts_of c.args.n n_fits in
    let high_fits : FitsSigned w128 (shr_z c.args.n (2 ^ 64)) = parts.high_fits in
    let multiple_fits : FitsSigned w128 (shr_z c.args.n (2 ^ 64) *ℤ pos (2 ^ 64)) = parts.multiple_fits in
    let rest_fits : FitsSigned w128 (c.args.n -ℤ shr_z c.args.n (2 ^ 64) *ℤ pos (2 ^ 64)) = parts.rest_fits in
    simp to_z-of_z (rw parts.whole (parts-whole c.args.n (shr_z c.args.n (2 ^ 64)) parts.rest parts.whole))

pub returns-clause-low : goal.returns-clause-low
returns-clause-low c =
    let n_fits : FitsSigned w128 c.args.n = c.ranges.n in
    let parts = parts_of c.args.n n_fits in
    let high_fits : FitsSigned w128 (shr_z c.args.n (2 ^ 64)) = parts.high_fits in
    let multiple_fits : FitsSigned w128 (shr_z c.args.n (2 ^ 64) *ℤ pos (2 ^ 64)) = parts.multiple_fits in
    let rest_fits : FitsSigned w128 (c.args.n -ℤ shr_z c.args.n (2 ^ 64) *ℤ pos (2 ^ 64)) = parts.rest_fits in
    simp to_z-of_z (rw parts.whole parts.below)
