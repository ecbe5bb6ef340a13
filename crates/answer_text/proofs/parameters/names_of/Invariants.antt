use Rattle.std.proofs.Common.{◌≡◌, map, take}
use Rattle.answer_text.proofs.parameters.names_of.Given as goal

abbrev pub invariant-loop-name : goal.invariant-loop-name
invariant-loop-name l = l.names.items ≡ map (λ p. p.0) (take l.name-index l.params)
