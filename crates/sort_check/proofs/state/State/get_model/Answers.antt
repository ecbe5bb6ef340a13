use Rattle.std.proofs.Common.{Bool, refl, sym, ap, ◌∙◌}
use Rattle.std.specs.List.{list_any}
use Rattle.sort_check.specs.Commands.{alone_fault, is_check_sat}
use Rattle.sort_check.specs.Commands.Command.{GetModel}
use Rattle.sort_check.proofs.StateLemmas.{and_false, or_false, one_plain, let_through}
use Rattle.sort_check.proofs.state.State.get_model.Goals as goal

pub returns : goal.returns
returns c before h =
    let_through before (alone_fault c.args.start (list_any is_check_sat before) c.args.parts.now) GetModel _ (ap (λ (b : Bool). alone_fault c.args.start b c.args.parts.now) (sym h.checked) ∙ sym c.alone_fault.ensures ∙ c.in_default.is)
    (one_plain before GetModel c.args.self.now _ h (record {
      commands = refl;
      silent = sym (and_false c.args.self.now.is_silent);
      logic = sym (or_false c.args.self.now.has_logic);
      checked = sym (or_false c.args.self.now.is_checked);
      over = sym (or_false c.args.self.now.is_over);
    }) refl refl refl refl refl)
