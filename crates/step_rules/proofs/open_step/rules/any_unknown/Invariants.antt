use Rattle.std.proofs.Common.{◌≡◌, drop}
use Rattle.std.specs.List.{list_any}
use Rattle.cube_rules.specs.machinery.Walks.{passes_at}
use Rattle.step_rules.specs.machinery.Walks.{is_unknown}
use Rattle.step_rules.proofs.open_step.rules.any_unknown.Given as goal

-- the rest decides
abbrev pub invariant-loop-id : goal.invariant-loop-id
invariant-loop-id l = list_any (passes_at (is_unknown l.k l.step.area l.atom) l.frames.lemmas) (drop l.id-index l.numbers) ≡ list_any (passes_at (is_unknown l.k l.step.area l.atom) l.frames.lemmas) l.numbers
