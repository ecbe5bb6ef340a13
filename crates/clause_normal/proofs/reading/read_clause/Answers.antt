use Rattle.std.proofs.Common.{ap}
use Rattle.std.proofs.lemmas.Option.{slice_get_within}
use Rattle.std.specs.Prelude.{Err}
use Rattle.horn_shape.proofs.ClauseLemmas.{legal_has_assertion}
use Rattle.clause_normal.proofs.ReadingLemmas.{horn_refused}
use Rattle.clause_normal.proofs.reading.read_clause.Goals as goal

pub clause_with-requires-clause-there : goal.clause_with-requires-clause-there
clause_with-requires-clause-there c = legal_has_assertion c.args.script.now c.args.index c.requires.legal (slice_get_within c.args.script.now.asserts c.args.index c.args.assertion c.requires.there)

pub returns-in-Err-clause-refused : goal.returns-in-Err-clause-refused
returns-in-Err-clause-refused c = λ refusal is.
    horn_refused c.args.script.now c.args.index c.args.assertion c.requires.there c.in-Err.stop c.not_horn.result refusal c.not_horn.ensures (cc) (λ offset e. c.in-Err.ensures.not_horn offset (ap (λ s. Err s) e))
