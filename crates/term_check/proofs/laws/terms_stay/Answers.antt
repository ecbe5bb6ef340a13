use Rattle.term_check.proofs.TermLemmas.{term_stays}
use Rattle.term_check.proofs.laws.terms_stay.Goals as goal

pub returns : goal.returns
returns c = λ old new lets term id keeps h. term_stays old new keeps lets term id h
