use Rattle.std.proofs.Common.{sym, ◌∙◌, arith}
use Rattle.std.proofs.lemmas.Int.{ints}
use Rattle.simplex_core.specs.Run.{moment}
use Rattle.simplex_core.proofs.MomentLemmas.{helps-above, helps-below, helps-zero}
use Rattle.simplex_core.proofs.bland.helps.Goals as goal

pub returns-then-a-lt0 : goal.returns-then-a-lt0
returns-then-a-lt0 c =
    c.can_rise.ensures ∙ sym (helps-below (moment c.args.t.now c.args.standings.now) c.args.a c.args.column (omega (arith, ints)))

pub returns-then-a-gt0 : goal.returns-then-a-gt0
returns-then-a-gt0 c =
    c.can_sink.ensures ∙ sym (helps-above (moment c.args.t.now c.args.standings.now) c.args.a c.args.column (omega (arith, ints)))

pub returns-else-a-gt0 : goal.returns-else-a-gt0
returns-else-a-gt0 c = sym (helps-zero (moment c.args.t.now c.args.standings.now) c.args.a c.args.column (omega (arith, ints)))
