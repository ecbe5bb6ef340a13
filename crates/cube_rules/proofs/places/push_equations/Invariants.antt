use Rattle.std.proofs.Common.{◌≡◌, ◌++◌, drop}
use Rattle.book_rules.specs.Areas.{equations_from}
use Rattle.cube_rules.proofs.places.push_equations.Given as goal

-- what came so far and what the rest gives
abbrev pub invariant-loop-place : goal.invariant-loop-place
invariant-loop-place l = l.lits.items ++ equations_from l.args l.place (drop l.place l.args) ≡ l.fn.lits.items ++ equations_from l.args 0 l.args
