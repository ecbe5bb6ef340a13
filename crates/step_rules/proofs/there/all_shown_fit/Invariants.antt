use Rattle.std.proofs.Common.{◌≡◌, drop}
use Rattle.std.specs.List.{list_all}
use Rattle.book_rules.specs.Places.{shown_has_places}
use Rattle.step_rules.specs.Tokens.{all_shown}
use Rattle.step_rules.proofs.there.all_shown_fit.Given as goal

-- the rest decides
abbrev pub invariant-loop-proof : goal.invariant-loop-proof
invariant-loop-proof l = list_all (shown_has_places l.sys) (all_shown (drop l.proof-index l.proofs)) ≡ list_all (shown_has_places l.sys) (all_shown l.proofs)
