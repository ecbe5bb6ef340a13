use Rattle.std.proofs.Common.{◌<◌, ◌≤◌, ◌+◌, ◌^◌, ℕ, arith, rules, ap, sym, subst, ◌∙◌, FitsSigned}
use Rattle.std.specs.Prelude.{ℤ, ◌+ℤ◌, nat_abs}
use Rattle.std.specs.Int.{w128, w64}
use Rattle.std.proofs.lemmas.Int.{ints, to_z-of_z}
use Rattle.lin_atoms.proofs.WordLemmas.{add_halves}
use Rattle.lin_atoms.proofs.accumulator.Accumulator.add.Goals as goal

-- a carry more
more : (high carry : ℤ) (n : ℕ) → nat_abs high ≤ n → nat_abs carry ≤ 1 → nat_abs (high +ℤ carry) ≤ n + 1
more high carry n h one = omega (arith, ints, h, one)

few : (z : ℤ) (n : ℕ) → nat_abs z ≤ n + 1 → n < 2 ^ 32 → FitsSigned w64 z
few z n h room = omega (arith, ints, h, room)

next : (n : ℕ) → n < 2 ^ 32 → n + 1 ≤ 2 ^ 32
next n room = omega (arith, room)

pub overflow_add-self : goal.overflow_add-self
overflow_add-self c =
    let room : c.self.inside.added < 2 ^ 32 = subst (λ n. n < 2 ^ 32) (sym (ap (λ s. s.added) c.self.view_is)) c.requires.room in
    let high_fits : FitsSigned w64 c.self.inside.high = search rules in
    let h_fits : FitsSigned w64 c.carried-carry.result.0 = search rules in
    let below = more c.self.inside.high c.carried-carry.result.0 c.self.inside.added c.self.invariant.0 c.carried-carry.ensures.carry in
    let sum : FitsSigned w64 (c.self.inside.high +ℤ c.carried-carry.result.0) = few (c.self.inside.high +ℤ c.carried-carry.result.0) c.self.inside.added below room in
    simp to_z-of_z sum

pub invariant_of-self : goal.invariant_of-self
invariant_of-self c =
    let room : c.self.inside.added < 2 ^ 32 = subst (λ n. n < 2 ^ 32) (sym (ap (λ s. s.added) c.self.view_is)) c.requires.room in
    let high_fits : FitsSigned w64 c.self.inside.high = search rules in
    let h_fits : FitsSigned w64 c.carried-carry.result.0 = search rules in
    let below = more c.self.inside.high c.carried-carry.result.0 c.self.inside.added c.self.invariant.0 c.carried-carry.ensures.carry in
    let sum : FitsSigned w64 (c.self.inside.high +ℤ c.carried-carry.result.0) = few (c.self.inside.high +ℤ c.carried-carry.result.0) c.self.inside.added below room in
    simp to_z-of_z (below, next c.self.inside.added room)

pub returns-clause-value : goal.returns-clause-value
returns-clause-value c =
    let room : c.self.inside.added < 2 ^ 32 = subst (λ n. n < 2 ^ 32) (sym (ap (λ s. s.added) c.self.view_is)) c.requires.room in
    let a_fits : FitsSigned w64 c.args.a = c.ranges.a in
    let b_fits : FitsSigned w128 c.args.b = c.ranges.b in
    let product_fits : FitsSigned w128 c.product.result = record { sfits = c.product.type_inv } in
    let high_fits : FitsSigned w64 c.self.inside.high = search rules in
    let low_fits : FitsSigned w128 c.self.inside.low = search rules in
    let h_fits : FitsSigned w64 c.carried-carry.result.0 = search rules in
    let l_fits : FitsSigned w128 c.carried-carry.result.1 = search rules in
    let below = more c.self.inside.high c.carried-carry.result.0 c.self.inside.added c.self.invariant.0 c.carried-carry.ensures.carry in
    let sum : FitsSigned w64 (c.self.inside.high +ℤ c.carried-carry.result.0) = few (c.self.inside.high +ℤ c.carried-carry.result.0) c.self.inside.added below room in
    let summed = simp to_z-of_z at c.carried-carry.ensures.value in
    let multiplied = simp to_z-of_z at c.product.ensures in
    simp to_z-of_z (add_halves c.self.inside.high c.self.inside.low c.carried-carry.result.0 c.carried-carry.result.1 c.product.result c.args.self.now.value (ap (λ s. s.value) c.self.view_is) summed ∙ ap (λ p. c.args.self.now.value +ℤ p) multiplied)
