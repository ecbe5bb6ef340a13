use Rattle.std.proofs.Common.{ap, sym, subst, ◌∙◌, ◌+◌, ◌≡◌, ℕ, drop, get_or}
use Rattle.lin_atoms.specs.declared.lit.Lit.{Lit}
use Rattle.int_rows.specs.Node.{quotients}
use Rattle.lia_close.specs.Said.{AreReasons}
use Rattle.lia_divisors.proofs.ThereLemmas.{IsReason, reasons-next}
use Rattle.lia_divisors.proofs.said.all_said.Goals as goal

pub loop-at-preserved : goal.loop-at-preserved
loop-at-preserved c =
    let i = c.loop-at.invariant in
    let at = c.loop-at.at in
    let q = c.loop-at.quotient in
    let lits = c.args.lits.now in
    let reasons = c.args.reasons.now in
    let item = c.index-lits-at.is in
    let next : c.in_ok-quotient.quotient ≡ q + quotients (get_or lits at c.index-lits-at.result) = c.in_ok-quotient.ensures ∙ ap (λ (n : ℕ). q + n) (c.quotients.ensures ∙ ap quotients item) in
    record {
      there = λ known are.
          c.in_ok-put_literal.ensures known (i.there known are) (subst (λ (lit : Lit). IsReason known q lit (get_or reasons at 0)) (sym item) (reasons-next known q lits reasons at c.index-lits-at.result 0 c.loop-at-test.true c.requires (i.left known are)).0);
      left = λ known are.
          subst (λ (n : ℕ). AreReasons known n (drop (at + 1) lits) (drop (at + 1) reasons)) (sym next) (reasons-next known q lits reasons at c.index-lits-at.result 0 c.loop-at-test.true c.requires (i.left known are)).1;
    }
