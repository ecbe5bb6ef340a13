use Rattle.std.proofs.Common.{◌≡◌, Bool, not, ◌&&◌, refl, sym, ap, ◌∙◌}
use Rattle.std.specs.List.{list_any}
use Rattle.sort_check.specs.Commands.{alone_fault, is_set_logic, is_check_sat}
use Rattle.sort_check.specs.Commands.Command.{CheckSat}
use Rattle.sort_check.proofs.StateLemmas.{and_false, or_true, or_false, one_plain, let_through}
use Rattle.sort_check.proofs.state.State.check_sat.Goals as goal
use Rattle.sort_check.proofs.state.State.check_sat.Goals.{then-self, else-self}

pub returns : goal.returns
returns c before h =
    let allowed : c.if-self.allowed ≡ (c.args.self.now.has_logic && not c.args.self.now.is_checked) = elim c.if-self.branch [ then-self w ↦ w.allowed-is ∙ ap (λ (b : Bool). b && not c.args.self.now.is_checked) (sym w.if-self.true) | else-self w ↦ w.allowed-is ∙ w.if-self.false ∙ ap (λ (b : Bool). b && not c.args.self.now.is_checked) (sym w.if-self.false) ] in
    let_through before (alone_fault c.args.start (list_any is_set_logic before && not (list_any is_check_sat before)) c.args.parts.now) CheckSat _ (ap (λ (b : Bool). alone_fault c.args.start b c.args.parts.now) (sym (ap (λ (b : Bool). b && not c.args.self.now.is_checked) h.logic ∙ ap (λ (b : Bool). list_any is_set_logic before && not b) h.checked) ∙ sym allowed) ∙ sym c.alone_fault.ensures ∙ c.in_default.is)
    (one_plain before CheckSat c.args.self.now _ h (record {
      commands = refl;
      silent = sym (and_false c.args.self.now.is_silent);
      logic = sym (or_false c.args.self.now.has_logic);
      checked = sym (or_true c.args.self.now.is_checked);
      over = sym (or_false c.args.self.now.is_over);
    }) refl refl refl refl refl)
