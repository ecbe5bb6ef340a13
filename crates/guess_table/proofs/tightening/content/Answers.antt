use Rattle.std.proofs.Common.{◌≡◌, ◌<◌, ◌≤◌, ap, sym, ◌∙◌, subst, arith, FitsSigned, rules, List, ℕ, ℤ, get_or, nat_abs, length, map}
use Rattle.std.specs.Prelude.{pos}
use Rattle.std.specs.Int.{w64, IsGcd}
use Rattle.std.proofs.lemmas.Int.{to_z-of_z}
use Rattle.std.proofs.lemmas.List.{get_or-map, length-map}
use Rattle.std.proofs.lemmas.Nat.Gcd.{dvd-zero}
use Rattle.int_rows.proofs.ContentLemmas.{common-end, common-more, common-one}
use Rattle.guess_table.proofs.tightening.content.Goals as goal

pub loop-coefficient-init : goal.loop-coefficient-init
loop-coefficient-init c d = (λ both. both.1, λ all. (dvd-zero d, all))

pub loop-coefficient-preserved : goal.loop-coefficient-preserved
loop-coefficient-preserved c =
    let terms : List (ℕ × ℤ) = c.args.terms.now in
    let row : List ℤ = map (λ t. t.1) terms in
    let i = c.loop-coefficient.coefficient-index in
    let less : i < length terms = c.loop-coefficient-test.true in
    let within : i < length row = let long = length-map terms (λ t. t.1) in omega (arith, long, less) in
    let a : ℤ = (get_or terms i (0, pos 0)).1 in
    let fits : FitsSigned w64 a = search rules in
    let size = simp to_z-of_z at c.unsigned_abs.ensures.value in
    let entry : a ≡ get_or row i (pos 0) = sym (get_or-map (λ t. t.1) terms i (0, pos 0) (pos 0) less) in
    let number : c.from.result ≡ nat_abs (get_or row i (pos 0)) = c.from.ensures ∙ size ∙ ap (λ (k : ℤ). nat_abs k) entry in
    common-more row i (pos 0) c.loop-coefficient.divisor c.gcd-divisor.result within c.loop-coefficient.invariant (subst (λ n. IsGcd c.loop-coefficient.divisor n c.gcd-divisor.result) number c.gcd-divisor.ensures)

pub returns-then-divisor-eq1 : goal.returns-then-divisor-eq1
returns-then-divisor-eq1 c = sym (common-one (map (λ t. t.1) c.args.terms.now) c.loop-coefficient.coefficient-index c.loop-coefficient.divisor c.if-divisor-eq1.true c.loop-coefficient.invariant)

pub returns : goal.returns
returns c =
    let terms : List (ℕ × ℤ) = c.args.terms.now in
    let ended : length (map (λ t. t.1) terms) ≤ c.loop-coefficient.coefficient-index = let long = length-map terms (λ t. t.1) in let none = c.loop-coefficient-test.false in omega (arith, long, none) in
    sym (common-end (map (λ t. t.1) terms) c.loop-coefficient.coefficient-index c.loop-coefficient.divisor ended c.loop-coefficient.invariant)
