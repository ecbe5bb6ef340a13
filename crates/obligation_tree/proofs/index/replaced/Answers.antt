use Rattle.std.proofs.Common.{ℕ, Bool, List, ◌++◌, ◌∷◌, [], ◌==◌, get_or, not, ap, ◌∙◌}
use Rattle.std.proofs.lemmas.Bool.{eq-eqb, ne_eqb}
use Rattle.obligation_tree.proofs.NumberLemmas.{kept-all, kept-more, kept-none}
use Rattle.obligation_tree.proofs.index.replaced.Goals.{then-one-number+in_ok-push, else-one-number}
use Rattle.obligation_tree.proofs.index.replaced.Goals as goal

pub loop-number-preserved : goal.loop-number-preserved
loop-number-preserved c =
    let p : ℕ → Bool = λ number. not (c.args.one == number) in
    let ns = c.args.numbers.now in
    let i = c.loop-number.number-index in
    let before = c.loop-number.others.items in
    elim c.if-one-number.branch [
      | then-one-number+in_ok-push w ↦ rw w.others-is (kept-more p ns i before _ c.loop-number-test.true (ap not (ne_eqb c.args.one (get_or ns i 0) w.if-one-number.true)) c.loop-number.invariant w.in_ok-push.ensures.items)
      | else-one-number w ↦ rw w.others-is (kept-none p ns i before c.loop-number-test.true (ap not (eq-eqb c.args.one (get_or ns i 0) w.if-one-number.false)) c.loop-number.invariant)
    ]

pub returns : goal.returns
returns c =
    let p : ℕ → Bool = λ number. not (c.args.one == number) in
    c.in_ok-push-2.ensures.items ∙ ap (λ (ns : List ℕ). ns ++ c.args.next ∷ []) (kept-all p c.args.numbers.now c.loop-number.number-index c.loop-number.others.items c.loop-number-test.false c.loop-number.invariant)
