-- What a sum in numbers of 64 bits stands for.
use Rattle.std.specs.Prelude.{neg_ℤ}
use Rattle.lin_atoms.specs.Linear.{Linear}
use Rattle.farkas_proof.specs.declared.narrow.Narrow.{Narrow}

-- it keeps the constant with the other sign
abbrev pub sum_of : Narrow → Linear
sum_of sum = record { terms = sum.terms.items; constant = neg_ℤ sum.negated }
