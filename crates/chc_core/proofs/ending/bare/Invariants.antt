use Rattle.std.proofs.Common.{◌≡◌, ◌-◌}
use Rattle.std.specs.Prelude.{option_map}
use Rattle.book_rules.specs.declared.end.End.TheVariants.{Sat}
use Rattle.book_rules.specs.Legal.{bare_from, sat}
use Rattle.chc_core.specs.Views.{state_of}
use Rattle.step_rules.specs.Views.{lemmas_of}
use Rattle.chc_core.proofs.ending.bare.Given as goal

-- the levels to come decide
abbrev pub invariant-loop-level : goal.invariant-loop-level
invariant-loop-level l = option_map Sat (bare_from (lemmas_of l.parts.frames.lemmas) l.level (l.parts.level - l.level)) ≡ sat (state_of l.parts)
