use Rattle.std.proofs.Common.{◌≡◌, drop}
use Rattle.std.specs.List.{list_all}
use Rattle.lia_stack.specs.Short.{has_short_multiples}
use Rattle.lia_stack.proofs.short.+has_short_multiples.Given as goal

-- the parts to come decide
abbrev pub invariant-all_have_short_multiples-loop-part : goal.invariant-all_have_short_multiples-loop-part
invariant-all_have_short_multiples-loop-part l = list_all has_short_multiples (drop l.part-index l.parts) ≡ list_all has_short_multiples l.parts
