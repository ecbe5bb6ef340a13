use Rattle.std.proofs.Common.{◌≡◌, take, map}
use Rattle.lia_used.specs.Used.{AreNumbers, lemma_at}
use Rattle.lia_used.proofs.numbers.all_numbers.Given as goal

-- the numbers so far, and their lemmas
abbrev pub invariant-loop-i : goal.invariant-loop-i
invariant-loop-i l = record {
  numbers : AreNumbers l.i l.numbers.items;
  all : map (lemma_at l.lemmas) l.numbers.items ≡ take l.i l.lemmas;
}
