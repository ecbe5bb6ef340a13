use Rattle.horn_shape.proofs.BodyLemmas.{body_is}
use Rattle.horn_shape.proofs.laws.bodies_say_their_parts.Goals as goal

pub returns : goal.returns
returns c = λ I nodes id lets content E arena h. let b = body_is I nodes arena id lets content E h in (b.value, b.has, b.meets)
