use Rattle.std.proofs.Common.{◌≡◌, take}
use Rattle.lia_cases.proofs.formula.copies.Given as goal

-- the lemmas so far
abbrev pub invariant-loop-lemma : goal.invariant-loop-lemma
invariant-loop-lemma l = l.copied ≡ take l.lemma-index l.lemmas
