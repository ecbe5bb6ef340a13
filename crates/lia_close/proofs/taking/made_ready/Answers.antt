use Rattle.std.proofs.Common.{◌≡◌, true, false, Bool, ap, ◌∙◌, Err}
use Rattle.int_rows.specs.Ready.{ready, ready_fits}
use Rattle.lia_node.proofs.FitLemmas.{ready-fits}
use Rattle.lia_close.proofs.taking.made_ready.Goals as goal

both : (b : Bool) → b ≡ true → b ≡ false → ⊥
both true h e = absurd (cc)
both false h e = absurd (cc)

pub unreachable-requires : goal.unreachable-requires
unreachable-requires c =
    let fits = ready-fits c.args.quotient c.args.lit.now c.is_legal.ensures c.requires.short in
    let not_so : ready_fits (ready c.args.quotient c.args.lit.now) ≡ false = c.ready.ensures.wide (c.in-Err-Wide.is ∙ ap Err c.in-Err-Wide.field-0-is) in
    both (ready_fits (ready c.args.quotient c.args.lit.now)) fits not_so
