-- Values lie strictly between - 2 ^ 63 and 2 ^ 63: in the points and tuples of facts, and in the points of obligations.
use Rattle.std.specs.Prelude.{◌≡◌, Bool, true, ◌&&◌, Option, Some, None}
use Rattle.std.specs.List.{list_all}
use Rattle.base.specs.Widths.{is_short}
use Rattle.book_rules.specs.Walks.{AllOf}
use Rattle.book_rules.specs.Instances.{Ground}
use Rattle.book_rules.specs.State.{Fact, Obligation, State}

abbrev pub conclusion_is_short : Option Ground → Bool
conclusion_is_short None = true
conclusion_is_short (Some a) = list_all is_short a.1

abbrev pub fact_is_short : Fact → Bool
fact_is_short f = list_all is_short f.point && conclusion_is_short f.conclusion

pub record AreShort (s : State) : Type 0 where
  pub facts : AllOf (λ (f : Fact). fact_is_short f ≡ true) s.facts
  pub points : AllOf (λ (o : Obligation). list_all is_short o.point ≡ true) s.obligations
