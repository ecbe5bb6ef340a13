use Rattle.std.proofs.Common.{◌≡◌, suc, map, take}
use Rattle.cert_derivations.specs.Steps.{place_among}
use Rattle.cert_derivations.proofs.of_facts.numbers_among.Given as goal

abbrev pub invariant-loop-fact : goal.invariant-loop-fact
invariant-loop-fact l = l.numbers.items ≡ map (λ p. suc p) (map (place_among l.among) (take l.fact-index l.facts))
