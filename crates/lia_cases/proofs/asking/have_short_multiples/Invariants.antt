use Rattle.std.proofs.Common.{◌≡◌, take, true}
use Rattle.std.specs.List.{list_all}
use Rattle.lia_search.specs.Decides.{has_short_multiples}
use Rattle.lia_cases.proofs.asking.have_short_multiples.Given as goal

-- the forms so far
abbrev pub invariant-loop-form : goal.invariant-loop-form
invariant-loop-form l = list_all has_short_multiples (take l.form-index l.forms) ≡ true
