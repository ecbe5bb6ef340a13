use Rattle.std.proofs.Common.{rules}
use Rattle.std.specs.Prelude.{IsErrOf}
use Rattle.horn_shape.specs.declared.stop.HornStop.TheVariants.{NotHorn}
use Rattle.horn_shape.proofs.ClauseLemmas.{legal_has_assertion}
use Rattle.check_derivation.proofs.FoundLemmas.{not_both}
use Rattle.check_derivation.proofs.clauses.clause_at.Goals as goal

pub clause_with-requires-clause-there : goal.clause_with-requires-clause-there
clause_with-requires-clause-there c = legal_has_assertion c.args.script.now c.args.index c.requires.legal c.requires.there

pub unreachable-requires : goal.unreachable-requires
unreachable-requires c =
    let script = c.args.script.now in
    let told : IsErrOf c.clause_with.result (NotHorn c.in-Err-NotHorn.field-0-0) = search rules in
    let bad = c.clause_with.ensures.not_horn c.in-Err-NotHorn.field-0-0 told in
    let good = c.requires.horn c.args.index bad.assertion bad.there in
    not_both script c.args.index c.in-Err-NotHorn.field-0-0 good.0 bad good.1
