use Rattle.std.proofs.Common.{◌≡◌, ◌<◌, length, get_or, ap, sym, ◌∙◌}
use Rattle.std.proofs.lemmas.List.{get_or_default}
use Rattle.obligation_tree.specs.Nodes.{absent, is_live, is_live_at}
use Rattle.obligation_tree.proofs.NumberLemmas.{kept-all, kept-more, kept-none}
use Rattle.obligation_tree.proofs.closing.live_among.Goals.{then-is_live+in_ok-push, else-is_live}
use Rattle.obligation_tree.proofs.closing.live_among.Goals as goal

pub loop-number-preserved : goal.loop-number-preserved
loop-number-preserved c =
    let nodes = c.args.nodes.now in
    let ns = c.args.numbers.now in
    let i = c.loop-number.number-index in
    let before = c.loop-number.live.items in
    let there : get_or ns i 0 < length nodes = c.requires i c.loop-number-test.true in
    let told : is_live_at nodes (get_or ns i 0) ≡ c.is_live.result = ap is_live (get_or_default nodes (get_or ns i 0) absent c.get.result.now there ∙ sym c.get.ensures) ∙ sym c.is_live.ensures in
    elim c.if-is_live.branch [
      | then-is_live+in_ok-push w ↦ rw w.live-is (kept-more (is_live_at nodes) ns i before _ c.loop-number-test.true (told ∙ w.if-is_live.true) c.loop-number.invariant w.in_ok-push.ensures.items)
      | else-is_live w ↦ rw w.live-is (kept-none (is_live_at nodes) ns i before c.loop-number-test.true (told ∙ w.if-is_live.false) c.loop-number.invariant)
    ]

pub returns : goal.returns
returns c = kept-all (is_live_at c.args.nodes.now) c.args.numbers.now c.loop-number.number-index c.loop-number.live.items c.loop-number-test.false c.loop-number.invariant
