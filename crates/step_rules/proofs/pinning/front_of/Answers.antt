use Rattle.std.proofs.Common.{rules, ◌≡◌, ◌+◌, ◌⊎◌, ℤ, pos, slice_set, w64, of_z, to_z, FitsSigned, sym, subst, arith}
use Rattle.std.proofs.lemmas.Int.{to_z-of_z}
use Rattle.step_rules.proofs.FrontLemmas.{AreFront, front-more}
use Rattle.step_rules.proofs.pinning.front_of.Goals as goal

pub loop-at-preserved : goal.loop-at-preserved
loop-at-preserved c =
    let fits : FitsSigned w64 c.in-Some.value = search rules in
    let same : to_z w64 (of_z w64 c.in-Some.value) ≡ c.in-Some.value = to_z-of_z w64 c.in-Some.value fits in
    let test = c.loop-at-test.true in
    let counted = subst (λ (v : ℤ). (c.counted-count.result ≡ c.loop-at.count) ⊎ ((c.counted-count.result ≡ c.loop-at.at + 1) × (v ≡ pos 0 → ⊥))) same c.counted-count.ensures in
    subst (λ (v : ℤ). AreFront c.args.lits.now (slice_set c.loop-at.values c.loop-at.at v) (c.loop-at.at + 1) c.counted-count.result) (sym same)
    (front-more c.args.lits.now c.loop-at.values c.loop-at.at c.loop-at.count c.counted-count.result c.in-Some.value c.loop-at.invariant (omega arith) c.in-Some.ensures counted)
