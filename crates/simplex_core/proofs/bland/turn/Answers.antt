use Rattle.std.proofs.Common.{ap, sym, ◌∙◌, refl, position}
use Rattle.simplex_core.specs.Run.{is_wide, moment, wide}
use Rattle.simplex_core.proofs.TurnLemmas.{turn-crossed, turn-settles, turn-wide}
use Rattle.simplex_core.proofs.bland.turn.Goals as goal

pub returns-in-Some : goal.returns-in-Some
returns-in-Some c = sym (turn-crossed (moment c.args.t.now c.args.standings.now) c.in-Some.column (sym c.crossed_unless.ensures ∙ c.in-Some.is))

pub returns-in-Some-wide : goal.returns-in-Some-wide
unfolding wide
returns-in-Some-wide c = sym (turn-wide (moment c.args.t.now c.args.standings.now) c.in-Some-wide.column (sym c.crossed_unless.ensures ∙ c.in-None.is) (ap (position is_wide) (sym c.requires.values) ∙ sym c.wide.ensures ∙ c.in-Some-wide.is))

pub returns-in-None-wide : goal.returns-in-None-wide
unfolding wide
returns-in-None-wide c = c.settle.ensures ∙ sym (turn-settles (moment c.args.t.now c.args.standings.now) _ (sym c.crossed_unless.ensures ∙ c.in-None.is) (ap (position is_wide) (sym c.requires.values) ∙ sym c.wide.ensures ∙ c.in-None-wide.is) refl)
