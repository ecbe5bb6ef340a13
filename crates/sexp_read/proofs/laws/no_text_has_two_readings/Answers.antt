use Rattle.sexp_read.proofs.Machine.{one_reading}
use Rattle.sexp_read.proofs.laws.no_text_has_two_readings.Goals as goal

pub returns : goal.returns
returns c = one_reading
