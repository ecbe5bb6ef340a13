use Rattle.std.proofs.Common.{◌≡◌, drop}
use Rattle.std.specs.List.{list_all}
use Rattle.book_rules.specs.Places.{no_lift_has_places}
use Rattle.step_rules.specs.Tokens.{all_no_lifts}
use Rattle.step_rules.proofs.there.all_kept_fit.Given as goal

-- the rest decides
abbrev pub invariant-loop-one : goal.invariant-loop-one
invariant-loop-one l = list_all (no_lift_has_places l.sys) (all_no_lifts (drop l.one-index l.kept)) ≡ list_all (no_lift_has_places l.sys) (all_no_lifts l.kept)
