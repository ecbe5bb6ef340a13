use Rattle.std.proofs.Common.{true, refl, sym, ◌∙◌}
use Rattle.sort_check.specs.Commands.{alone_fault}
use Rattle.sort_check.specs.Commands.Command.{Exit}
use Rattle.sort_check.proofs.StateLemmas.{and_false, or_true, or_false, one_plain, let_through}
use Rattle.sort_check.proofs.state.State.exit.Goals as goal

pub returns : goal.returns
returns c before h =
    let_through before (alone_fault c.args.start true c.args.parts.now) Exit _ (sym c.alone_fault.ensures ∙ c.in_default.is)
    (one_plain before Exit c.args.self.now _ h (record {
      commands = refl;
      silent = sym (and_false c.args.self.now.is_silent);
      logic = sym (or_false c.args.self.now.has_logic);
      checked = sym (or_false c.args.self.now.is_checked);
      over = sym (or_true c.args.self.now.is_over);
    }) refl refl refl refl refl)
