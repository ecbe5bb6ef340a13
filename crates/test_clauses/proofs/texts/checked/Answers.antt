use Rattle.test_clauses.proofs.texts.checked.Goals as goal

pub returns : goal.returns
returns g c =
    let found = c.in-Ok.ensures in
    let checked = c.in-Ok.checked in
    let within = c.scripts_are_within_limits.ensures c.args.text.now found.0 found.1 checked found.3 in
    record {
      asserts = c.assertions_are_legal.ensures c.args.text.now found.0 found.1 checked c.arena_law.ensures.arena found.3;
      few_asserts = within.asserts;
      few_preds = within.preds;
      few_args = within.args;
    }
