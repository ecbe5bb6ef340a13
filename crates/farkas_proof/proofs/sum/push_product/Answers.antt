use Rattle.std.proofs.Common.{◌≡◌, ◌<◌, ◌==◌, ap, sym, ◌∙◌, arith, rules, true, false, FitsSigned}
use Rattle.std.specs.Prelude.{nat_abs, ◌*ℤ◌}
use Rattle.std.specs.Int.{w64}
use Rattle.std.proofs.lemmas.Bool.{eqb-true, eqb-false}
use Rattle.std.proofs.lemmas.Int.{to_z-of_z}
use Rattle.farkas_proof.specs.machinery.Sum.{are_counted}
use Rattle.farkas_proof.proofs.SumLemmas.{counted-push, product-none, product-put}
use Rattle.farkas_proof.proofs.sum.push_product.Goals as goal

pub returns-in_ok-push-clause-value : goal.returns-in_ok-push-clause-value
returns-in_ok-push-clause-value c =
    let k_fits : FitsSigned w64 c.args.k = c.ranges.k in
    let a_fits : FitsSigned w64 c.args.a = c.ranges.a in
    let a = c.args.k *ℤ c.args.a in
    let value = simp to_z-of_z at c.one_product-total.ensures.value in
    let none : (nat_abs c.one_product-total.result.value == 0) ≡ false = search rules in
    let some_not = eqb-false (nat_abs c.one_product-total.result.value) 0 none in
    let same : nat_abs c.one_product-total.result.value ≡ nat_abs a = ap nat_abs value in
    let some : 0 < nat_abs a = omega arith in
    product-put c.args.terms.now.items c.push.new.self.items c.args.variable c.one_product-total.result a c.in_ok-push.ensures.items value some

pub returns-in_ok-push-clause-counted : goal.returns-in_ok-push-clause-counted
returns-in_ok-push-clause-counted c =
    ap (are_counted 1) c.in_ok-push.ensures.items ∙ counted-push 1 c.args.terms.now.items (c.args.variable, c.one_product-total.result) (omega (arith, c.one_product-total.ensures.added)) c.requires

pub returns-else-not-is_zero-clause-value : goal.returns-else-not-is_zero-clause-value
returns-else-not-is_zero-clause-value c =
    let k_fits : FitsSigned w64 c.args.k = c.ranges.k in
    let a_fits : FitsSigned w64 c.args.a = c.ranges.a in
    let a = c.args.k *ℤ c.args.a in
    let value = simp to_z-of_z at c.one_product-total.ensures.value in
    let zero : (nat_abs c.one_product-total.result.value == 0) ≡ true = search rules in
    let none : nat_abs a ≡ 0 = ap nat_abs (sym value) ∙ eqb-true _ _ zero in
    product-none c.args.terms.now.items c.args.variable a none
