use Rattle.std.proofs.Common.{◌≡◌, drop}
use Rattle.std.specs.List.{list_any}
use Rattle.cube_rules.specs.machinery.Walks.{passes_at, shuts}
use Rattle.cube_rules.proofs.framed.any_shuts.Given as goal

-- the rest decides
abbrev pub invariant-loop-id : goal.invariant-loop-id
invariant-loop-id l = list_any (passes_at (shuts l.k l.pair) l.frames.lemmas) (drop l.id-index l.numbers) ≡ list_any (passes_at (shuts l.k l.pair) l.frames.lemmas) l.numbers
