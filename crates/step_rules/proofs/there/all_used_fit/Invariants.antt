use Rattle.std.proofs.Common.{◌≡◌, drop}
use Rattle.std.specs.List.{list_all}
use Rattle.book_rules.specs.Places.{used_has_places}
use Rattle.step_rules.specs.Tokens.{all_used}
use Rattle.step_rules.proofs.there.all_used_fit.Given as goal

-- the rest decides
abbrev pub invariant-loop-one : goal.invariant-loop-one
invariant-loop-one l = list_all (used_has_places l.sys l.clause) (all_used (drop l.one-index l.used)) ≡ list_all (used_has_places l.sys l.clause) (all_used l.used)
