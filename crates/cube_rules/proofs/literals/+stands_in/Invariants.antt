use Rattle.std.proofs.Common.{◌≡◌, drop}
use Rattle.std.specs.List.{list_any}
use Rattle.book_rules.specs.Areas.{stands_in}
use Rattle.cube_rules.proofs.literals.+stands_in.Given as goal

-- the rest decides
abbrev pub invariant-stands_in_some-loop-form : goal.invariant-stands_in_some-loop-form
invariant-stands_in_some-loop-form l = list_any (stands_in l.lit) (drop l.form-index l.forms) ≡ list_any (stands_in l.lit) l.forms
