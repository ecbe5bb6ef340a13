use Rattle.std.proofs.Common.{◌∙◌}
use Rattle.book_rules.specs.Frames.{Lemma}
use Rattle.cube_rules.specs.machinery.Walks.{equals}
use Rattle.cube_rules.proofs.UpperLemmas.{equals-on, upper-any}
use Rattle.cube_rules.proofs.framed.frame_has.Goals as goal

pub returns : goal.returns
returns c =
    let lemma : Lemma = record { pred = c.args.pred; cube = c.args.lemma.now } in
    c.any_same.ensures ∙ upper-any c.args.frames.now.lemmas c.args.pred c.args.k c.upper-numbers.result.now (equals c.args.k lemma) c.upper-numbers.ensures (equals-on c.args.k lemma)
