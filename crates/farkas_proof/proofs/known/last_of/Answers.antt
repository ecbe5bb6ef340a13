use Rattle.farkas_proof.proofs.KnownLemmas.{end-none, end-some}
use Rattle.farkas_proof.proofs.known.last_of.Goals as goal

pub returns-in-Some : goal.returns-in-Some
returns-in-Some c = λ lits is. end-some c.args.ends.now lits c.in-Some.end.now is c.in-Some.ensures.value

pub returns-in-None : goal.returns-in-None
returns-in-None c = λ lits is. end-none c.args.ends.now lits is c.in-None.ensures.value
