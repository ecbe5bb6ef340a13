use Rattle.horn_shape.proofs.KnownLemmas.{plain_is}
use Rattle.horn_shape.proofs.laws.plain_terms_are_plain.Goals as goal

pub returns : goal.returns
returns c = λ nodes id arena h. plain_is nodes arena id h
