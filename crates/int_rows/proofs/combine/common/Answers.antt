use Rattle.std.proofs.Common.{subst}
use Rattle.std.specs.Int.{◌∣◌}
use Rattle.std.proofs.Math.Nat.{one-dvd}
use Rattle.int_rows.proofs.combine.common.Goals as goal

pub returns-then-b-eq1 : goal.returns-then-b-eq1
returns-then-b-eq1 c = (one-dvd c.args.a, one-dvd c.args.b, λ d p q. subst (λ n. d ∣ n) c.if-b-eq1.true q)
