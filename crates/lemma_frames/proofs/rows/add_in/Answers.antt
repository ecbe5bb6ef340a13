use Rattle.std.proofs.Common.{◌≡◌, ◌∙◌, [], get_or, subst, length}
use Rattle.lemma_frames.specs.Frames.{level_of}
use Rattle.lemma_frames.specs.machinery.Rows.{IsPlaced}
use Rattle.lemma_frames.proofs.IndexLemmas.{order_is, there_is, index_push}
use Rattle.lemma_frames.proofs.rows.add_in.Goals as goal

pub placed-requires-clause-order : goal.placed-requires-clause-order
placed-requires-clause-order c = order_is c.args.rows.now.items c.args.lemmas.now c.args.framed.pred c.in_ok-row.row.items c.requires.index c.requires.pred (c.in_ok-row.ensures ∙ c.row_of.ensures)

pub placed-requires-clause-there : goal.placed-requires-clause-there
placed-requires-clause-there c = there_is c.args.rows.now.items c.args.lemmas.now c.args.framed.pred c.in_ok-row.row.items c.requires.index c.requires.pred (c.in_ok-row.ensures ∙ c.row_of.ensures)

pub returns-clause-index : goal.returns-clause-index
returns-clause-index c =
    let ls = c.args.lemmas.now in
    let row = get_or c.args.rows.now.items c.args.framed.pred [] in
    let is : c.in_ok-row.row.items ≡ row = c.in_ok-row.ensures ∙ c.row_of.ensures in
    let placed : IsPlaced (level_of ls) c.in_ok-row.row.items c.args.framed.level c.count-id.result c.in_ok-row-2.row = c.in_ok-row-2.ensures in
    let here : IsPlaced (level_of ls) row c.args.framed.level (length ls) c.in_ok-row-2.row =
    subst (λ r. IsPlaced (level_of ls) r c.args.framed.level (length ls) c.in_ok-row-2.row) is (subst (λ n. IsPlaced (level_of ls) c.in_ok-row.row.items c.args.framed.level n c.in_ok-row-2.row) c.count-id.ensures placed) in
    rw (c.put.ensures, c.in_ok-push.ensures.ok) (index_push c.args.rows.now.items ls c.args.framed c.in_ok-row-2.row c.requires.index c.requires.pred here)
