use Rattle.std.proofs.Common.{◌≡◌, drop}
use Rattle.book_rules.specs.Walks.{first_number, number_from}
use Rattle.cube_rules.specs.Views.{lemmas_of}
use Rattle.step_rules.specs.machinery.Walks.{is_unknown}
use Rattle.step_rules.proofs.open_step.rules.unknown.Given as goal

-- the rest decides
abbrev pub invariant-loop-id : goal.invariant-loop-id
invariant-loop-id l = number_from l.id (is_unknown l.k l.step.area l.atom) (drop l.id (lemmas_of l.frames.lemmas)) ≡ first_number (is_unknown l.k l.step.area l.atom) (lemmas_of l.frames.lemmas)
