use Rattle.std.proofs.Common.{◌≡◌, ◌^◌, ◌≤◌, arith, lit<}
use Rattle.std.proofs.Math.Nat.{pow-le-pow_right}
use Rattle.gen_text.proofs.text.power_of_two.Goals as goal

pub returns-clause-small : goal.returns-clause-small
returns-clause-small c =
    let h : 2 ^ c.args.depth ≤ 2 ^ 12 = pow-le-pow_right (lit< tt) c.requires in
    let is : c.pow.result ≡ 2 ^ c.args.depth = c.pow.ensures in
    omega arith
