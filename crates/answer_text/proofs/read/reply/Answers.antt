use Rattle.std.proofs.Common.{◌^◌, ◌<◌, List, sym, subst}
use Rattle.sexp_read.specs.declared.tree.Tree.{Tree}
use Rattle.term_check.specs.Weight.{weights}
use Rattle.answer_text.proofs.DefinitionLemmas.{rest_weighs}
use Rattle.answer_text.proofs.read.reply.Goals as goal

pub answer_behind-requires-clause-weight : goal.answer_behind-requires-clause-weight
answer_behind-requires-clause-weight c =
    rest_weighs c.as_slice.result.now (2 ^ 32) (subst (λ (trees : List Tree). weights trees < 2 ^ 32) (sym c.as_slice.ensures) c.requires.weight)
