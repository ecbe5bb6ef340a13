use Rattle.std.proofs.Common.{◌≡◌, ◌<◌, ◌≤◌, ◌+◌, ◌==◌, ℕ, ap, sym, ◌∙◌, arith, set, rules, false, FitsSigned, get_or-set_same}
use Rattle.std.specs.Prelude.{nat_abs, ◌*ℤ◌}
use Rattle.std.specs.Int.{w64}
use Rattle.std.proofs.lemmas.Bool.{eqb-true, eqb-false}
use Rattle.std.proofs.lemmas.Int.{to_z-of_z}
use Rattle.lin_atoms.specs.machinery.Accumulator.{Total}
use Rattle.lin_atoms.specs.Algebra.{with_term}
use Rattle.farkas_proof.specs.machinery.Sum.{are_counted, seen}
use Rattle.farkas_proof.proofs.SumLemmas.{counted-at, counted-gone, counted-put, counted-set, counted-weaker, free-zero, free-put, met-gone, met-set, removed, set-gone, stood}
use Rattle.farkas_proof.proofs.sum.add_product.Goals as goal

pub returns-then-is_zero-clause-value : goal.returns-then-is_zero-clause-value
returns-then-is_zero-clause-value c =
    let k_fits : FitsSigned w64 c.args.k = c.ranges.k in
    let a_fits : FitsSigned w64 c.args.a = c.ranges.a in
    let items = c.args.terms.now.items in
    let at = c.in-Ok.at in
    let a = c.args.k *ℤ c.args.a in
    let met = rw c.as_slice.ensures.value at c.in-Ok.ensures.met in
    let sum = simp to_z-of_z at c.add_to.ensures.value in
    let old = stood items at c.args.variable c.index_mut.result.now c.add_to.new.total.value a met.0 c.index_mut.ensures.value met.1 sum in
    let e : ℕ × Total = (c.index_mut.result.now.0, c.add_to.new.total) in
    let now : c.index.result.now ≡ e = c.index.ensures ∙ get_or-set_same items at e c.index.result.now met.0 in
    let none : nat_abs c.add_to.new.total.value ≡ 0 = ap (λ (t : ℕ × Total). nat_abs t.1.value) (sym now) ∙ eqb-true _ _ (sym c.is_zero.ensures ∙ c.if-is_zero.true) in
    ap seen (c.remove.ensures.items ∙ removed (set items at e) at ∙ set-gone items at e) ∙ met-gone items at c.args.variable a c.add_to.new.total.value (with_term c.args.variable a (seen items)) met.0 old.1 none (met.2 a)

pub returns-then-is_zero-clause-counted : goal.returns-then-is_zero-clause-counted
returns-then-is_zero-clause-counted c =
    let items = c.args.terms.now.items in
    let e : ℕ × Total = (c.index_mut.result.now.0, c.add_to.new.total) in
    ap (are_counted (c.args.products + 1)) (c.remove.ensures.items ∙ removed (set items c.in-Ok.at e) c.in-Ok.at ∙ set-gone items c.in-Ok.at e) ∙ counted-gone (c.args.products + 1) items c.in-Ok.at (counted-weaker c.args.products (c.args.products + 1) items (omega arith) c.requires.counted)

pub returns-else-is_zero-clause-value : goal.returns-else-is_zero-clause-value
returns-else-is_zero-clause-value c =
    let k_fits : FitsSigned w64 c.args.k = c.ranges.k in
    let a_fits : FitsSigned w64 c.args.a = c.ranges.a in
    let items = c.args.terms.now.items in
    let at = c.in-Ok.at in
    let a = c.args.k *ℤ c.args.a in
    let met = rw c.as_slice.ensures.value at c.in-Ok.ensures.met in
    let sum = simp to_z-of_z at c.add_to.ensures.value in
    let old = stood items at c.args.variable c.index_mut.result.now c.add_to.new.total.value a met.0 c.index_mut.ensures.value met.1 sum in
    let e : ℕ × Total = (c.index_mut.result.now.0, c.add_to.new.total) in
    let now : c.index.result.now ≡ e = c.index.ensures ∙ get_or-set_same items at e c.index.result.now met.0 in
    let none : (nat_abs c.add_to.new.total.value == 0) ≡ false = ap (λ (t : ℕ × Total). nat_abs t.1.value == 0) (sym now) ∙ sym c.is_zero.ensures ∙ c.if-is_zero.false in
    let some_not = eqb-false (nat_abs c.add_to.new.total.value) 0 none in
    let some : 0 < nat_abs c.add_to.new.total.value = omega arith in
    met-set items at c.args.variable c.index_mut.result.now.0 a c.add_to.new.total (with_term c.args.variable a (seen items)) met.0 old.0 old.1 some (met.2 a)

pub returns-else-is_zero-clause-counted : goal.returns-else-is_zero-clause-counted
returns-else-is_zero-clause-counted c =
    let items = c.args.terms.now.items in
    let at = c.in-Ok.at in
    let met = rw c.as_slice.ensures.value at c.in-Ok.ensures.met in
    let before = counted-at c.args.products items at c.index_mut.result.now met.0 c.requires.counted in
    let is = ap (λ (t : ℕ × Total). t.1.added) c.index_mut.ensures.value in
    let small : c.add_to.new.total.added ≤ c.args.products + 1 = omega (arith, before, is, c.add_to.ensures.added) in
    counted-set (c.args.products + 1) items at (c.index_mut.result.now.0, c.add_to.new.total) small (counted-weaker c.args.products (c.args.products + 1) items (omega arith) c.requires.counted)

pub returns-in_ok-insert-in-Err-clause-value : goal.returns-in_ok-insert-in-Err-clause-value
returns-in_ok-insert-in-Err-clause-value c =
    let k_fits : FitsSigned w64 c.args.k = c.ranges.k in
    let a_fits : FitsSigned w64 c.args.a = c.ranges.a in
    let items = c.args.terms.now.items in
    let a = c.args.k *ℤ c.args.a in
    let free = rw c.as_slice.ensures.value at c.in-Err.ensures.free in
    let value = simp to_z-of_z at c.one_product-total.ensures.value in
    let none : (nat_abs c.one_product-total.result.value == 0) ≡ false = search rules in
    let some_not = eqb-false (nat_abs c.one_product-total.result.value) 0 none in
    let same : nat_abs c.one_product-total.result.value ≡ nat_abs a = ap nat_abs value in
    let some : 0 < nat_abs a = omega arith in
    ap seen c.in_ok-insert-in-Err.ensures.items ∙ free-put items c.in-Err.at c.args.variable a c.one_product-total.result (with_term c.args.variable a (seen items)) free.0 value some (free.1 a)

pub returns-in_ok-insert-in-Err-clause-counted : goal.returns-in_ok-insert-in-Err-clause-counted
returns-in_ok-insert-in-Err-clause-counted c =
    let items = c.args.terms.now.items in
    ap (are_counted (c.args.products + 1)) c.in_ok-insert-in-Err.ensures.items ∙ counted-put (c.args.products + 1) items c.in-Err.at (c.args.variable, c.one_product-total.result) (omega (arith, c.one_product-total.ensures.added)) (counted-weaker c.args.products (c.args.products + 1) items (omega arith) c.requires.counted)

pub returns-else-not-is_zero-clause-counted : goal.returns-else-not-is_zero-clause-counted
returns-else-not-is_zero-clause-counted c = counted-weaker c.args.products (c.args.products + 1) c.args.terms.now.items (omega arith) c.requires.counted

pub returns-else-not-is_zero-clause-value : goal.returns-else-not-is_zero-clause-value
returns-else-not-is_zero-clause-value c =
    let k_fits : FitsSigned w64 c.args.k = c.ranges.k in
    let a_fits : FitsSigned w64 c.args.a = c.ranges.a in
    let items = c.args.terms.now.items in
    let a = c.args.k *ℤ c.args.a in
    let free = rw c.as_slice.ensures.value at c.in-Err.ensures.free in
    let value = simp to_z-of_z at c.one_product-total.ensures.value in
    free-zero items c.in-Err.at c.args.variable a c.one_product-total.result.value (with_term c.args.variable a (seen items)) value c.if-not-is_zero.ensures (free.1 a)
