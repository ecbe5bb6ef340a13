use Rattle.std.proofs.Common.{◌+◌, arith}
use Rattle.term_tables.proofs.ConstantLemmas.{constants_are}
use Rattle.term_tables.proofs.laws.short_constants_are_constants.Goals as goal

pub returns : goal.returns
returns c = λ nodes top id arena short sub within. constants_are nodes top arena short (id + 1) id (omega arith) sub within
