use Rattle.std.proofs.Common.{◌≡◌, ◌≤◌, ◌^◌, take, false}
use Rattle.std.specs.Prelude.{nat_le}
use Rattle.std.specs.List.{list_any}
use Rattle.cube_rules.proofs.places.bound_of.Given as goal

-- above all so far, and above every number of 32 bits at most
abbrev pub invariant-loop-arg : goal.invariant-loop-arg
invariant-loop-arg l = (list_any (λ v. nat_le l.bound v) (take l.arg-index l.args) ≡ false) × (l.bound ≤ 2 ^ 32)
