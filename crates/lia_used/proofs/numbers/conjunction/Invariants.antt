use Rattle.std.proofs.Common.{◌≡◌, ◌∷◌, take, map}
use Rattle.lia_used.specs.Used.{lemma_at}
use Rattle.lia_used.proofs.numbers.conjunction.Given as goal

-- the formula and the lemmas so far
abbrev pub invariant-loop-number : goal.invariant-loop-number
invariant-loop-number l = l.parts ≡ l.form ∷ map (lemma_at l.lemmas) (take l.number-index l.numbers)
