use Rattle.std.proofs.Common.{◌≡◌, ◌++◌, map, drop}
use Rattle.std.specs.List.{enumerate_from}
use Rattle.answer_text.specs.Terms.{parameter_name}
use Rattle.interpretations.proofs.defining.parameters.Given as goal

-- the names so far, and those to come
abbrev pub invariant-loop-number : goal.invariant-loop-number
invariant-loop-number l =
    map (λ name. name.bytes) l.names.items ++ map (λ p. parameter_name p.0) (enumerate_from l.number (drop l.number l.fn.sorts)) ≡ map (λ p. parameter_name p.0) (enumerate_from 0 l.fn.sorts)
