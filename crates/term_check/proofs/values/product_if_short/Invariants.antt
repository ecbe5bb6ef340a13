use Rattle.std.proofs.Common.{◌≡◌, drop, map, fold}
use Rattle.term_check.specs.Rules.{product_if_short, multiplied}
use Rattle.term_check.proofs.values.product_if_short.Given as goal

abbrev pub invariant-loop-part : goal.invariant-loop-part
invariant-loop-part l = fold multiplied l.product (map (λ p. p.constant) (drop l.part-index l.parts)) ≡ product_if_short l.parts
