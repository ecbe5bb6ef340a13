use Rattle.std.proofs.Common.{◌≡◌, ◌<◌, ℕ, ◌∙◌, ap, sym, subst, FitsSigned, rules, List, get_or, nat_abs, arith, length}
use Rattle.std.specs.Prelude.{ℤ, pos}
use Rattle.std.specs.Int.{w64, IsGcd}
use Rattle.std.proofs.lemmas.Int.{to_z-of_z}
use Rattle.std.proofs.lemmas.List.{get_or-map, length-map}
use Rattle.int_rows.proofs.ContentLemmas.{coefficients-content, common-end, common-more}
use Rattle.lia_close.specs.machinery.Closing.{coefficients}
use Rattle.lia_close.proofs.content.content.Goals as goal

pub loop-term-preserved : goal.loop-term-preserved
loop-term-preserved c =
    let ts : List (ℕ × ℤ) = c.args.lin.now.terms in
    let row = coefficients c.args.lin.now in
    let i = c.loop-term.term-index in
    let h = c.loop-term-test.true in
    let long = length-map ts (λ (t : ℕ × ℤ). t.1) in
    let count = ap length c.terms-terms.ensures.is in
    let inside : i < length ts = omega (arith, h, count) in
    let number : c.magnitude.result ≡ nat_abs (get_or row i (pos 0)) =
    c.magnitude.ensures ∙ ap (λ (l : List (ℕ × ℤ)). nat_abs (get_or l i (0, pos 0)).1) c.terms-terms.ensures.is ∙ ap nat_abs (sym (get_or-map (λ (t : ℕ × ℤ). t.1) ts i (0, pos 0) (pos 0) inside)) in
    common-more row i (pos 0) c.loop-term.divisor c.gcd-divisor.result (omega (arith, inside, long)) c.loop-term.invariant (subst (λ (n : ℕ). IsGcd c.loop-term.divisor n c.gcd-divisor.result) number c.gcd-divisor.ensures)

pub signed-requires : goal.signed-requires
signed-requires c =
    let bounds = coefficients-content c.args.lin.now c.requires c.terms-terms.ensures.legal in
    let long = c.loop-term-test.false in
    let count = length-map c.args.lin.now.terms (λ (t : ℕ × ℤ). t.1) in
    let same = ap length c.terms-terms.ensures.is in
    let is = common-end (coefficients c.args.lin.now) c.loop-term.term-index c.loop-term.divisor (omega (arith, long, count, same)) c.loop-term.invariant in
    omega (arith, is, bounds)

pub returns-clause-is : goal.returns-clause-is
returns-clause-is c =
    let long = c.loop-term-test.false in
    let count = length-map c.args.lin.now.terms (λ (t : ℕ × ℤ). t.1) in
    let same = ap length c.terms-terms.ensures.is in
    let is = common-end (coefficients c.args.lin.now) c.loop-term.term-index c.loop-term.divisor (omega (arith, long, count, same)) c.loop-term.invariant in
    let fits : FitsSigned w64 c.signed.result = search rules in
    simp to_z-of_z (c.signed.ensures ∙ ap pos (sym is))

pub returns-clause-positive : goal.returns-clause-positive
returns-clause-positive c = (coefficients-content c.args.lin.now c.requires c.terms-terms.ensures.legal).0
