use Rattle.std.proofs.Common.{◌≡◌, ◌<◌, ◌-◌, [], length, get_or, take, sym, subst}
use Rattle.lemma_frames.specs.Frames.{level_of, IsUpper}
use Rattle.lemma_frames.specs.machinery.Rows.{IsRank}
use Rattle.lemma_frames.proofs.IndexLemmas.{order_is, there_is, upper_part}
use Rattle.lemma_frames.proofs.frames.Frames.upper.Goals as goal

pub rank-end-requires-clause-order : goal.rank-end-requires-clause-order
rank-end-requires-clause-order c =
    let within : c.args.pred < length c.self.inside.rows.items = subst (λ v. c.args.pred < v.preds) (sym c.self.view_is) c.requires.pred in
    order_is c.self.inside.rows.items c.self.inside.lemmas c.args.pred c.row_of-row.result.now c.self.invariant within c.row_of-row.ensures

pub rank-end-requires-clause-there : goal.rank-end-requires-clause-there
rank-end-requires-clause-there c =
    let within : c.args.pred < length c.self.inside.rows.items = subst (λ v. c.args.pred < v.preds) (sym c.self.view_is) c.requires.pred in
    there_is c.self.inside.rows.items c.self.inside.lemmas c.args.pred c.row_of-row.result.now c.self.invariant within c.row_of-row.ensures

pub returns : goal.returns
returns c =
    let rows = c.self.inside.rows.items in
    let ls = c.self.inside.lemmas in
    let end = c.rank-end.result in
    let within : c.args.pred < length rows = subst (λ v. c.args.pred < v.preds) (sym c.self.view_is) c.requires.pred in
    let is : c.row_of-row.result.now ≡ get_or rows c.args.pred [] = c.row_of-row.ensures in
    let rank : IsRank (level_of ls) (get_or rows c.args.pred []) (c.args.level - 1) 0 end = subst (λ r. IsRank (level_of ls) r (c.args.level - 1) 0 end) is c.rank-end.ensures in
    let here : IsUpper ls c.args.pred c.args.level (take end c.row_of-row.result.now) = subst (λ r. IsUpper ls c.args.pred c.args.level (take end r)) (sym is) (upper_part rows ls c.args.pred c.args.level end c.self.invariant within c.requires.level rank) in
    subst (λ v. IsUpper v.lemmas c.args.pred c.args.level (take end c.row_of-row.result.now)) c.self.view_is here
