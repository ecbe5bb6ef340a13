use Rattle.std.proofs.Common.{◌++◌, ◌∷◌, [], List, ap, ◌∙◌, map}
use Rattle.std.specs.Prelude.{ℤ, pos}
use Rattle.std.proofs.lemmas.List.{take_all}
use Rattle.int_rows.specs.Pushed.{widened}
use Rattle.int_rows.proofs.MadeLemmas.{changed-more}
use Rattle.int_rows.proofs.pushing.widened_rows.Goals as goal

pub returns : goal.returns
returns c = c.loop-row.invariant ∙ ap widened (ap (map (λ r. r.items)) (take_all c.loop-row.row-index c.args.rows.now c.loop-row-test.false))

pub loop-row-preserved : goal.loop-row-preserved
loop-row-preserved c =
    changed-more (λ r. r ++ pos 0 ∷ []) c.args.rows.now c.loop-row.made.items c.push.new.self.items c.loop-row.row-index c.row-item.result c.in_ok-wider.wider c.loop-row-test.true c.row-item.is c.in_ok-push.ensures.items
    (c.in_ok-wider.ensures ∙ ap (λ (r : List ℤ). r ++ pos 0 ∷ []) c.as_slice.ensures.value) c.loop-row.invariant
