use Rattle.std.proofs.Common.{◌≡◌, sym, ◌∙◌, subst, FitsSigned, rules, List, ℤ, get_or, nat_abs}
use Rattle.std.specs.Prelude.{pos}
use Rattle.std.specs.Int.{w64, IsGcd}
use Rattle.std.proofs.lemmas.Int.{to_z-of_z}
use Rattle.std.proofs.lemmas.Nat.Gcd.{dvd-zero}
use Rattle.int_rows.proofs.ContentLemmas.{common-end, common-more, common-one}
use Rattle.int_rows.proofs.content.content.Goals as goal

pub loop-entry-init : goal.loop-entry-init
loop-entry-init c d = (λ both. both.1, λ all. (dvd-zero d, all))

pub loop-entry-preserved : goal.loop-entry-preserved
loop-entry-preserved c =
    let row : List ℤ = c.args.row.now in
    let i = c.loop-entry.entry-index in
    let a_fits : FitsSigned w64 (get_or row i (pos 0)) = search rules in
    let size = simp to_z-of_z at c.unsigned_abs.ensures.value in
    let number : c.from.result ≡ nat_abs (get_or row i (pos 0)) = c.from.ensures ∙ size in
    common-more row i (pos 0) c.loop-entry.divisor c.gcd-divisor.result c.loop-entry-test.true c.loop-entry.invariant (subst (λ n. IsGcd c.loop-entry.divisor n c.gcd-divisor.result) number c.gcd-divisor.ensures)

pub returns-then-divisor-eq1 : goal.returns-then-divisor-eq1
returns-then-divisor-eq1 c = sym (common-one c.args.row.now c.loop-entry.entry-index c.loop-entry.divisor c.if-divisor-eq1.true c.loop-entry.invariant)

pub returns : goal.returns
returns c = sym (common-end c.args.row.now c.loop-entry.entry-index c.loop-entry.divisor c.loop-entry-test.false c.loop-entry.invariant)
