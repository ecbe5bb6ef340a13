use Rattle.obligation_turn.proofs.FoundLemmas.{broken-keeps, broken-lent, there-lent}
use Rattle.std.proofs.Common.{◌∙◌}
use Rattle.obligation_turn.proofs.root_steps.broken.Goals as goal

pub lemma-requires : goal.lemma-requires
lemma-requires c = there-lent _ c.args.lent.now c.args.id c.lent.view_is c.requires.there

pub no_lift_by-kept-requires : goal.no_lift_by-kept-requires
no_lift_by-kept-requires c = broken-keeps _ c.args.lent.now c.args.id c.args.seen c.in_ok-lemma.lemma c.lent.view_is c.requires.hit (c.in_ok-lemma.ensures ∙ c.lemma.ensures)

pub returns : goal.returns
returns c = λ nodes. broken-lent _ c.args.lent.now nodes c.args.id c.args.seen c.in_ok-lemma.lemma c.no_lift_by-kept.result c.lent.view_is c.requires.goes_on c.requires.there c.requires.hit (c.in_ok-lemma.ensures ∙ c.lemma.ensures) c.no_lift_by-kept.ensures.lemma c.no_lift_by-kept.ensures.why c.no_lift_by-kept.ensures.no_lift
