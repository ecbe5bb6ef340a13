use Rattle.std.proofs.Common.{ap, ◌∙◌, List}
use Rattle.term_tree.specs.declared.script.Pred.{Pred}
use Rattle.term_check.specs.Spelling.{pred_from}
use Rattle.term_check.proofs.NumberLemmas.{number_is}
use Rattle.term_check.proofs.signature.Signature.number_of.Goals as goal

pub returns-in-None : goal.returns-in-None
returns-in-None c =
    c.in-None.ensures.index ∙ number_is (λ k. k.items) c.args.name.now c.self.inside.names.keys c.self.inside.preds.items c.self.invariant.1
    ∙ ap (λ (ps : List Pred). pred_from 0 c.args.name.now ps) c.self.view_is

pub returns-in-Some : goal.returns-in-Some
returns-in-Some c =
    c.in-Some.ensures.index ∙ number_is (λ k. k.items) c.args.name.now c.self.inside.names.keys c.self.inside.preds.items c.self.invariant.1
    ∙ ap (λ (ps : List Pred). pred_from 0 c.args.name.now ps) c.self.view_is
