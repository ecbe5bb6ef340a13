use Rattle.std.proofs.Common.{◌≡◌, ◌<◌, ℕ, Bool, false, length, get_or, not, ap, sym, ◌∙◌, subst}
use Rattle.std.specs.List.{list_any}
use Rattle.std.proofs.lemmas.List.{get_or_default}
use Rattle.obligation_tree.specs.Nodes.{is_child_of}
use Rattle.obligation_tree.proofs.NumberLemmas.{kept-all, kept-more, kept-none}
use Rattle.obligation_tree.proofs.closing.childless.Goals.{then-not-index+in_ok-push, else-not-index}
use Rattle.obligation_tree.proofs.closing.childless.Goals as goal

pub loop-number-preserved : goal.loop-number-preserved
loop-number-preserved c =
    let nodes = c.args.nodes.now in
    let ns = c.args.numbers.now in
    let p : ℕ → Bool = λ number. not (list_any (is_child_of nodes number) ns) in
    let i = c.loop-number.number-index in
    let before = c.loop-number.leaves.items in
    let flags = c.in_ok-flags.flags.items in
    let there : get_or ns i 0 < length flags = subst (λ n. get_or ns i 0 < n) (sym c.in_ok-flags.ensures.long) (c.requires.within i c.loop-number-test.true) in
    let told : list_any (is_child_of nodes (get_or ns i 0)) ns ≡ c.index.result.now = sym (c.in_ok-flags.ensures.flags (get_or ns i 0)) ∙ get_or_default flags (get_or ns i 0) false c.index.result.now there ∙ sym c.index.ensures in
    elim c.if-not-index.branch [
      | then-not-index+in_ok-push w ↦ rw w.leaves-is (kept-more p ns i before _ c.loop-number-test.true (ap not (told ∙ w.if-not-index.true)) c.loop-number.invariant w.in_ok-push.ensures.items)
      | else-not-index w ↦ rw w.leaves-is (kept-none p ns i before c.loop-number-test.true (ap not (told ∙ w.if-not-index.false)) c.loop-number.invariant)
    ]

pub returns : goal.returns
returns c =
    let p : ℕ → Bool = λ number. not (list_any (is_child_of c.args.nodes.now number) c.args.numbers.now) in
    kept-all p c.args.numbers.now c.loop-number.number-index c.loop-number.leaves.items c.loop-number-test.false c.loop-number.invariant
