use Rattle.std.proofs.Common.{ap, ◌∙◌, map}
use Rattle.std.proofs.lemmas.List.{take_all}
use Rattle.int_rows.proofs.MadeLemmas.{lines-more}
use Rattle.int_rows.proofs.copies.copy_rows.Goals as goal

pub returns : goal.returns
returns c = c.loop-row.invariant ∙ ap (map (λ r. r.items)) (take_all c.loop-row.row-index c.args.rows.now c.loop-row-test.false)

pub loop-row-preserved : goal.loop-row-preserved
loop-row-preserved c =
    lines-more c.args.rows.now c.loop-row.made.items c.push.new.self.items c.loop-row.row-index c.row-item.result c.in_ok-copied.copied c.loop-row-test.true c.row-item.is c.in_ok-push.ensures.items (c.in_ok-copied.ensures ∙ c.as_slice.ensures.value) c.loop-row.invariant
