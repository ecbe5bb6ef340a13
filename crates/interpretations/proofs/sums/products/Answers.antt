use Rattle.std.proofs.Common.{◌*◌, ◌+◌, ℕ, List, length, get_or, sym, arith}
use Rattle.std.specs.Prelude.{ℤ, pos, nat_abs, nat_lt}
use Rattle.base.specs.Widths.{is_short, short_limit}
use Rattle.term_tree.specs.declared.node.TermId.{TermId}
use Rattle.term_tree.proofs.Public.{below_from}
use Rattle.answer_text.specs.Lemmas.{IsProduct}
use Rattle.interpretations.proofs.AddedLemmas.{grown-most}
use Rattle.interpretations.proofs.FullLemmas.{full-of}
use Rattle.interpretations.proofs.KeptLemmas.{at-all}
use Rattle.interpretations.proofs.LoopLemmas.{all-added, item-same, more-added}
use Rattle.interpretations.proofs.sums.products.Goals as goal

pub loop-term-preserved : goal.loop-term-preserved
loop-term-preserved c =
    let i = c.loop-term.term-index in
    let terms : List (ℕ × ℤ) = c.args.addends.now in
    more-added (λ nodes t k. IsProduct nodes c.args.sorts.now t k) (7 * i) 7 (7 * (i + 1)) c.args.terms.now.nodes c.loop-term.terms.nodes c.product.new.terms.nodes terms i c.loop-term.items.items
    c.push.new.items.items (get_or terms i (0, pos 0)) c.in_ok-item.item c.loop-term-test.true (item-same terms i (0, pos 0) c.loop-term-test.true) c.in_ok-push.ensures (omega arith)
    c.loop-term.invariant c.in_ok-item.ensures.added

pub product-requires-clause-there : goal.product-requires-clause-there
product-requires-clause-there c =
    let i = c.loop-term.term-index in
    let terms : List (ℕ × ℤ) = c.args.addends.now in
    below_from (get_or terms i (0, pos 0)).0 (length c.args.sorts.now) (at-all (λ (t : ℕ × ℤ). nat_lt t.0 (length c.args.sorts.now)) terms i (get_or terms i (0, pos 0)) c.loop-term-test.true (sym (item-same terms i (0, pos 0) c.loop-term-test.true)) c.requires.there)

pub product-requires-clause-short : goal.product-requires-clause-short
product-requires-clause-short c =
    let i = c.loop-term.term-index in
    let terms : List (ℕ × ℤ) = c.args.addends.now in
    below_from (nat_abs (get_or terms i (0, pos 0)).1) short_limit (at-all (λ (t : ℕ × ℤ). is_short t.1) terms i (get_or terms i (0, pos 0)) c.loop-term-test.true (sym (item-same terms i (0, pos 0) c.loop-term-test.true)) c.requires.short)

pub returns-in_err-item-clause-full : goal.returns-in_err-item-clause-full
returns-in_err-item-clause-full c = λ h.
    let most = grown-most (7 * c.loop-term.term-index) c.args.terms.now.nodes c.loop-term.terms.nodes c.loop-term.invariant.grown in
    let full = full-of {A = TermId} c.from_residual.result c.in_err-item.field-0.0 _ c.from_residual.ensures.1 h c.in_err-item.ensures.full in
    omega (arith, most, full, c.loop-term-test.true)

pub returns-clause-added : goal.returns-clause-added
returns-clause-added c =
    let i = c.loop-term.term-index in
    let terms : List (ℕ × ℤ) = c.args.addends.now in
    all-added (λ nodes t k. IsProduct nodes c.args.sorts.now t k) (7 * i) (7 * length terms) c.args.terms.now.nodes c.loop-term.terms.nodes terms i c.loop-term.items.items c.loop-term-test.false
    (omega (arith, c.loop-term.auto.term-index-end)) c.loop-term.invariant
