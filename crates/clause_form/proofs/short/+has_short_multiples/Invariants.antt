use Rattle.std.proofs.Common.{◌≡◌, drop}
use Rattle.std.specs.List.{list_all}
use Rattle.clause_form.specs.System.{has_short_guard}
use Rattle.clause_form.proofs.short.+has_short_multiples.Given as goal

-- the parts to come decide
abbrev pub invariant-all_have_short_multiples-loop-part : goal.invariant-all_have_short_multiples-loop-part
invariant-all_have_short_multiples-loop-part l = list_all has_short_guard (drop l.part-index l.parts) ≡ list_all has_short_guard l.parts
