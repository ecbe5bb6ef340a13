use Rattle.std.proofs.Common.{◌∙◌, sym}
use Rattle.cube_rules.specs.machinery.Walks.{is_on, passes_at}
use Rattle.cube_rules.proofs.UpperLemmas.{none-empty, upper-any}
use Rattle.cube_rules.proofs.framed.is_free.Goals as goal

pub returns : goal.returns
returns c = λ h.
    let lemmas = c.args.frames.now.lemmas in
    let numbers = c.upper.result.now in
    sym (upper-any lemmas c.args.pred c.args.k numbers (is_on c.args.k c.args.pred) c.upper.ensures (λ e is. is))
    ∙ none-empty (passes_at (is_on c.args.k c.args.pred) lemmas) numbers (sym c.is_empty.ensures ∙ h)
