-- What is known of a system beside its search.
use Rattle.std.specs.Prelude.{Bool, false, Option, None}
use Rattle.std.specs.Option.{option_map_or}
use Rattle.guess_bounds.specs.Rounds.{Rounds, first_round}

-- the rounds of bounds, and whether false follows from what running clauses forward met, once they were run
pub record Hinted : Type 0 where
  pub rounds : Rounds
  pub broken : Option Bool

abbrev pub unhinted : Hinted
unhinted = record { rounds = first_round; broken = None }

abbrev pub is_broken : Hinted → Bool
is_broken h = option_map_or (λ (b : Bool). b) h.broken false
