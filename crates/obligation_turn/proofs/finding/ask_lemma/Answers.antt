use Rattle.std.proofs.Common.{ap, ◌∙◌}
use Rattle.std.specs.Prelude.{List}
use Rattle.lin_atoms.specs.declared.lit.Lit.{Lit}
use Rattle.chc_tokens.specs.declared.goal.Goal.TheVariants.{Holds}
use Rattle.obligation_turn.proofs.FoundLemmas.{asks-lent, found-of, there-lent}
use Rattle.obligation_turn.proofs.finding.ask_lemma.Goals as goal

pub level_of-level-requires : goal.level_of-level-requires
level_of-level-requires c = there-lent _ c.args.lent.now c.args.id c.lent.view_is c.requires.there

pub pred_of-pred-requires : goal.pred_of-pred-requires
pred_of-pred-requires c = there-lent _ c.args.lent.now c.args.id c.lent.view_is c.requires.there

pub lemma-requires : goal.lemma-requires
lemma-requires c = there-lent _ c.args.lent.now c.args.id c.lent.view_is c.requires.there

pub ask_all-requires-clause-asks : goal.ask_all-requires-clause-asks
ask_all-requires-clause-asks c =
    asks-lent _ c.args.lent.now c.args.id c.pred_of-pred.result (Holds c.in_ok-lemma.lemma) c.lent.view_is c.requires.goes_on c.requires.there c.pred_of-pred.ensures.pred (ap (λ (l : List Lit). Holds l) (c.in_ok-lemma.ensures ∙ c.lemma.ensures))

pub returns : goal.returns
returns c =
    found-of _ c.args.lent.now c.args.id c.pred_of-pred.result (Holds c.in_ok-lemma.lemma) c.level_of-level.result c.args.nodes c.in_ok-found.found c.lent.view_is c.pred_of-pred.ensures.pred (ap (λ (l : List Lit). Holds l) (c.in_ok-lemma.ensures ∙ c.lemma.ensures)) c.level_of-level.ensures c.in_ok-found.ensures
