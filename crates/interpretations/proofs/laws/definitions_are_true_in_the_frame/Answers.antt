use Rattle.interpretations.proofs.LawLemmas.{from-frame, in-frame}
use Rattle.interpretations.proofs.laws.definitions_are_true_in_the_frame.Goals as goal

pub returns : goal.returns
returns c = λ lemmas k pred declared d values some is have. (in-frame lemmas k pred declared d values some is have, from-frame lemmas k pred declared d values some is have)
