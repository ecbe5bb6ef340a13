use Rattle.std.proofs.Common.{◌≡◌, refl, sym, ap, ◌∙◌}
use Rattle.std.specs.Prelude.{None}
use Rattle.term_tree.specs.declared.script.Assertion.{Assertion}
use Rattle.sort_check.specs.Commands.{bool_fault}
use Rattle.sort_check.specs.Commands.Command.{Assert}
use Rattle.sort_check.proofs.StateLemmas.{and_false, or_false, one_assertion, let_through}
use Rattle.sort_check.proofs.state.State.assert_found.Goals as goal

pub returns : goal.returns
returns c before s h is part =
    let self = c.args.self.now in
    let fault : bool_fault s.part ≡ None = ap bool_fault part ∙ sym c.bool_fault.ensures ∙ c.in_default.is in
    let a : Assertion = record { term = c.args.found.id; offset = c.from.result; command = self.commands } in
    let_through before _ (Assert c.args.start s.term) _ fault
    (one_assertion before c.args.start s.term a self _ h (record {
      commands = refl;
      silent = sym (and_false self.is_silent);
      logic = sym (or_false self.has_logic);
      checked = sym (or_false self.is_checked);
      over = sym (or_false self.is_over);
    }) refl refl c.in_ok-push.ensures.items c.from.ensures refl is)
