use Rattle.std.proofs.Common.{◌≡◌, drop}
use Rattle.book_rules.specs.Walks.{first_number, number_from}
use Rattle.cube_rules.specs.Views.{lemmas_of}
use Rattle.cube_rules.specs.machinery.Walks.{shuts}
use Rattle.cube_rules.proofs.framed.shut_out.Given as goal

-- the rest decides
abbrev pub invariant-loop-id : goal.invariant-loop-id
invariant-loop-id l = number_from l.id (shuts l.k l.pair) (drop l.id (lemmas_of l.frames.lemmas)) ≡ first_number (shuts l.k l.pair) (lemmas_of l.frames.lemmas)
