use Rattle.std.proofs.Common.{Bool, refl, sym, ap, ◌∙◌}
use Rattle.std.specs.List.{list_all}
use Rattle.sort_check.specs.Commands.{set_logic_fault, is_inform}
use Rattle.sort_check.specs.Commands.Command.{SetLogic}
use Rattle.sort_check.proofs.StateLemmas.{and_false, or_true, or_false, one_plain, let_through}
use Rattle.sort_check.proofs.state.State.set_logic.Goals as goal

pub returns : goal.returns
returns c before h =
    let_through before (set_logic_fault c.args.text.now (list_all is_inform before) c.args.start c.args.parts.now) SetLogic _ (ap (λ (b : Bool). set_logic_fault c.args.text.now b c.args.start c.args.parts.now) (sym h.silent) ∙ sym c.set_logic_fault.ensures ∙ c.in_default.is)
    (one_plain before SetLogic c.args.self.now _ h (record {
      commands = refl;
      silent = sym (and_false c.args.self.now.is_silent);
      logic = sym (or_true c.args.self.now.has_logic);
      checked = sym (or_false c.args.self.now.is_checked);
      over = sym (or_false c.args.self.now.is_over);
    }) refl refl refl refl refl)
