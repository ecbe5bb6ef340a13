use Rattle.sexp_read.proofs.Exists.{has_reading}
use Rattle.sexp_read.proofs.laws.every_text_has_a_reading.Goals as goal

pub returns : goal.returns
returns c = has_reading
