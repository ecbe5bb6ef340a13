use Rattle.std.proofs.Common.{refl, sym, ◌∙◌}
use Rattle.sort_check.specs.Commands.{inform_fault}
use Rattle.sort_check.specs.Commands.Command.{Inform}
use Rattle.sort_check.proofs.StateLemmas.{and_true, or_false, one_plain, let_through}
use Rattle.sort_check.proofs.state.State.inform.Goals as goal

pub returns : goal.returns
returns c before h =
    let_through before (inform_fault c.args.start c.args.parts.now) Inform _ (sym c.inform_fault.ensures ∙ c.in_default.is)
    (one_plain before Inform c.args.self.now _ h (record {
      commands = refl;
      silent = sym (and_true c.args.self.now.is_silent);
      logic = sym (or_false c.args.self.now.has_logic);
      checked = sym (or_false c.args.self.now.is_checked);
      over = sym (or_false c.args.self.now.is_over);
    }) refl refl refl refl refl)
