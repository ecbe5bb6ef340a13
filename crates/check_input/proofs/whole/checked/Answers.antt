use Rattle.check_input.proofs.whole.checked.Goals as goal

pub returns-clause-legal : goal.returns-clause-legal
returns-clause-legal c =
    let found = c.in_ok-checked.ensures in
    let checked = c.in_ok-checked.checked in
    let within = c.scripts_are_within_limits.ensures c.args.text.now found.0 found.1 checked found.3 in
    record {
      asserts = c.assertions_are_legal.ensures c.args.text.now found.0 found.1 checked c.arena_law.ensures.arena found.3;
      few_asserts = within.asserts;
      few_preds = within.preds;
      few_args = within.args;
    }
