use Rattle.std.proofs.Common.{◌≡◌, drop}
use Rattle.std.specs.List.{list_any}
use Rattle.cube_rules.specs.machinery.Walks.{equals, passes_at}
use Rattle.cube_rules.proofs.framed.any_same.Given as goal

-- the rest decides
abbrev pub invariant-loop-id : goal.invariant-loop-id
invariant-loop-id l = list_any (passes_at (equals l.k (record { pred = l.pred; cube = l.lemma })) l.frames.lemmas) (drop l.id-index l.numbers) ≡ list_any (passes_at (equals l.k (record { pred = l.pred; cube = l.lemma })) l.frames.lemmas) l.numbers
