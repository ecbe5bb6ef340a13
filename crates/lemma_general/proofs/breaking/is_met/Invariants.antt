use Rattle.std.proofs.Common.{◌≡◌, drop}
use Rattle.std.specs.List.{list_any}
use Rattle.cube_forms.specs.Cubes.{cube_holds}
use Rattle.lemma_general.specs.declared.breaking.Breaking.{Breaking}
use Rattle.lemma_general.proofs.breaking.is_met.Given as goal

-- the rest decides
abbrev pub invariant-loop-one : goal.invariant-loop-one
invariant-loop-one l = list_any (λ (one : Breaking). cube_holds one.tuple l.cube) (drop l.one-index l.met) ≡ list_any (λ (one : Breaking). cube_holds one.tuple l.cube) l.met
