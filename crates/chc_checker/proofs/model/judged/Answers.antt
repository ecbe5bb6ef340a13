use Rattle.std.proofs.Common.{rules}
use Rattle.std.specs.Prelude.{IsErrOf}
use Rattle.clause_normal.specs.declared.stop.NormalStop.TheVariants.{Count}
use Rattle.chc_checker.proofs.JudgeLemmas.{narrow_here}
use Rattle.chc_checker.proofs.model.judged.Goals as goal

pub with_tables-requires-clause-narrow : goal.with_tables-requires-clause-narrow
with_tables-requires-clause-narrow c = narrow_here c.args.script.now c.requires.reached.index c.args.clause.now c.requires.normal c.requires.reached.is

pub decided-requires-clause-narrow : goal.decided-requires-clause-narrow
decided-requires-clause-narrow c = narrow_here c.args.script.now c.requires.reached.index c.args.clause.now c.requires.normal c.requires.reached.is

pub returns-in-Err-Count : goal.returns-in-Err-Count
returns-in-Err-Count c =
    let told : IsErrOf c.with_tables.result (Count c.in-Err-Count.field-0-0) = search rules in
    let many = c.with_tables.ensures.count c.in-Err-Count.field-0-0 told in
    record { clause = c.args.clause.now; reached = c.requires.reached; narrow = many.narrow; large = many.large }
