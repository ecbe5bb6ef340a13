use Rattle.std.proofs.Common.{◌≡◌, ◌∙◌, ◌+◌, [], get_or, ap, sym, subst, length}
use Rattle.std.specs.List.{Contains}
use Rattle.lemma_frames.specs.Frames.{level_of, pred_of, lifted}
use Rattle.lemma_frames.specs.machinery.Rows.{IsPlaced, IsWithout}
use Rattle.lemma_frames.proofs.IndexLemmas.{order_is, there_is, row_has, without_order, without_there, index_lift, lifted_is}
use Rattle.lemma_frames.proofs.rows.lift_in.Goals as goal

pub without-requires-clause-order : goal.without-requires-clause-order
without-requires-clause-order c =
    let rows = c.args.rows.now.items in let ls = c.args.lemmas.now in
    let is : c.row_of.result.now ≡ get_or rows (pred_of ls c.args.id) [] = c.row_of.ensures ∙ ap (λ p. get_or rows p []) c.pred_at-pred.ensures in
    order_is rows ls (pred_of ls c.args.id) c.row_of.result.now c.requires.index (c.requires.index.known c.args.id c.requires.there) is

pub without-requires-clause-there : goal.without-requires-clause-there
without-requires-clause-there c =
    let rows = c.args.rows.now.items in let ls = c.args.lemmas.now in
    let is : c.row_of.result.now ≡ get_or rows (pred_of ls c.args.id) [] = c.row_of.ensures ∙ ap (λ p. get_or rows p []) c.pred_at-pred.ensures in
    there_is rows ls (pred_of ls c.args.id) c.row_of.result.now c.requires.index (c.requires.index.known c.args.id c.requires.there) is

pub without-requires-clause-has : goal.without-requires-clause-has
without-requires-clause-has c =
    let rows = c.args.rows.now.items in let ls = c.args.lemmas.now in
    let is : c.row_of.result.now ≡ get_or rows (pred_of ls c.args.id) [] = c.row_of.ensures ∙ ap (λ p. get_or rows p []) c.pred_at-pred.ensures in
    subst (λ r. Contains r c.args.id) (sym is) (row_has rows ls c.args.id c.requires.index c.requires.there)

pub placed-requires-clause-order : goal.placed-requires-clause-order
placed-requires-clause-order c =
    let rows = c.args.rows.now.items in let ls = c.args.lemmas.now in
    let is : c.row_of.result.now ≡ get_or rows (pred_of ls c.args.id) [] = c.row_of.ensures ∙ ap (λ p. get_or rows p []) c.pred_at-pred.ensures in
    let order = order_is rows ls (pred_of ls c.args.id) c.row_of.result.now c.requires.index (c.requires.index.known c.args.id c.requires.there) is in
    without_order (level_of ls) c.row_of.result.now c.args.id c.in_ok-row.row.items order c.in_ok-row.ensures

pub placed-requires-clause-there : goal.placed-requires-clause-there
placed-requires-clause-there c =
    let rows = c.args.rows.now.items in let ls = c.args.lemmas.now in
    let is : c.row_of.result.now ≡ get_or rows (pred_of ls c.args.id) [] = c.row_of.ensures ∙ ap (λ p. get_or rows p []) c.pred_at-pred.ensures in
    let known = c.requires.index.known c.args.id c.requires.there in
    let order = order_is rows ls (pred_of ls c.args.id) c.row_of.result.now c.requires.index known is in
    let there = there_is rows ls (pred_of ls c.args.id) c.row_of.result.now c.requires.index known is in
    without_there (length ls) (level_of ls) c.row_of.result.now c.args.id c.in_ok-row.row.items order there c.in_ok-row.ensures

pub returns-clause-index : goal.returns-clause-index
returns-clause-index c =
    let rows = c.args.rows.now.items in let ls = c.args.lemmas.now in let id = c.args.id in
    let is : c.row_of.result.now ≡ get_or rows (pred_of ls id) [] = c.row_of.ensures ∙ ap (λ p. get_or rows p []) c.pred_at-pred.ensures in
    let shorter = c.in_ok-row.row.items in let row = c.in_ok-row-2.row in
    let without : IsWithout (get_or rows (pred_of ls id) []) id shorter = subst (λ r. IsWithout r id shorter) is c.in_ok-row.ensures in
    let level : c.level_at-level.result + 1 ≡ level_of ls id + 1 = ap (λ n. n + 1) c.level_at-level.ensures in
    let placed : IsPlaced (level_of ls) shorter (level_of ls id + 1) id row = subst (λ n. IsPlaced (level_of ls) shorter n id row) level c.in_ok-row-2.ensures in
    let lemma = c.in_ok-lemma.ensures ∙ c.lemma_at.ensures in
    let risen : c.set.new.self ≡ lifted ls id = c.in_ok-set.ensures.ok ∙ lifted_is ls id c.pred_at-pred.result (c.level_at-level.result + 1) c.in_ok-lemma.lemma c.pred_at-pred.ensures level lemma in
    rw (c.put.ensures, risen, c.pred_at-pred.ensures) (index_lift rows ls id shorter row c.requires.index c.requires.there without placed)
