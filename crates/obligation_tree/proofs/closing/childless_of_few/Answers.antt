use Rattle.std.proofs.Common.{ℕ, Bool, not, ap, sym, ◌∙◌}
use Rattle.std.specs.List.{list_any}
use Rattle.obligation_tree.specs.Nodes.{is_child_of}
use Rattle.obligation_tree.proofs.NumberLemmas.{kept-all, kept-more, kept-none}
use Rattle.obligation_tree.proofs.closing.childless_of_few.Goals.{then-not-has_child+in_ok-push, else-not-has_child}
use Rattle.obligation_tree.proofs.closing.childless_of_few.Goals as goal

pub loop-number-preserved : goal.loop-number-preserved
loop-number-preserved c =
    let p : ℕ → Bool = λ number. not (list_any (is_child_of c.args.nodes.now number) c.args.numbers.now) in
    let ns = c.args.numbers.now in
    let i = c.loop-number.number-index in
    let before = c.loop-number.leaves.items in
    elim c.if-not-has_child.branch [
      | then-not-has_child+in_ok-push w ↦ rw w.leaves-is (kept-more p ns i before _ c.loop-number-test.true (ap not (sym c.has_child.ensures ∙ w.if-not-has_child.true)) c.loop-number.invariant w.in_ok-push.ensures.items)
      | else-not-has_child w ↦ rw w.leaves-is (kept-none p ns i before c.loop-number-test.true (ap not (sym c.has_child.ensures ∙ w.if-not-has_child.false)) c.loop-number.invariant)
    ]

pub returns : goal.returns
returns c =
    let p : ℕ → Bool = λ number. not (list_any (is_child_of c.args.nodes.now number) c.args.numbers.now) in
    kept-all p c.args.numbers.now c.loop-number.number-index c.loop-number.leaves.items c.loop-number-test.false c.loop-number.invariant
