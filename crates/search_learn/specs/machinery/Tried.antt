-- Tries, after more of them.
use Rattle.step_rules.specs.Standing.{Standing}
use Rattle.lemma_general.specs.Generals.{IsForSame}
use Rattle.lemma_general.specs.Tries.{IsTrying, part_of, IsWiderCube}
use Rattle.lemma_general.specs.declared.trying.Tries.{Tries}

-- what the lemma is for stays
pub record IsTriedOn (b : Standing) (old new : Tries) : Type 0 where
  pub trying : IsTrying b new
  pub same : IsForSame (part_of old) (part_of new)

-- and its cube holds each tuple that it held
pub record IsWidenedOn (b : Standing) (old new : Tries) : Type 0 where
  pub trying : IsTrying b new
  pub same : IsForSame (part_of old) (part_of new)
  pub wider : IsWiderCube (part_of old).lemma (part_of new).lemma
