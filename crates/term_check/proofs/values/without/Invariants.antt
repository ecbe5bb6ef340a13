use Rattle.std.proofs.Common.{◌≡◌, ◌+◌, ◌*◌, ◌^◌, ◌≤◌, drop, nat_abs, map, fold, ◌-ℤ◌}
use Rattle.term_check.specs.Rules.{worth}
use Rattle.term_check.proofs.values.without.Given as goal

abbrev pub invariant-loop-part : goal.invariant-loop-part
invariant-loop-part l = (fold (λ a k. a -ℤ k) l.rest (map worth (drop l.part-index l.parts)) ≡ fold (λ a k. a -ℤ k) l.value (map worth l.parts)) × (nat_abs l.rest ≤ 2 ^ 63 * (l.part-index + 1))
