use Rattle.std.proofs.Common.{◌≡◌, length, true, arith, rules}
use Rattle.chc_checker.proofs.LinkLemmas.{link_by, two_parts}
use Rattle.chc_checker.proofs.links.link_of.Goals as goal

pub returns : goal.returns
returns c =
    let least = c.in-len2.len_at_least in
    let below = c.in-len2.len_below in
    let long : length c.args.parts.now ≡ 2 = omega (arith, least, below) in
    let one : c.is_turned.result ≡ true = search rules in
    let other : c.is_turned-2.result ≡ true = search rules in
    link_by c.args.low.now c.args.high.now c.args.parts.now c.first-item.result c.second-item.result c.in_ok-u.u.0 c.in_ok-u.u.1 c.in_ok-u.v.0 c.in_ok-u.v.1
    c.in_ok-x.x.0 c.in_ok-x.x.1 c.in_ok-x.y.0 c.in_ok-x.y.1 c.partner.result (two_parts c.args.parts.now c.first-item.result c.second-item.result long c.first-item.is c.second-item.is)
    c.in_ok-u.ensures c.in_ok-x.ensures (c.is_turned.ensures one) (c.is_turned-2.ensures other) c.partner.ensures
