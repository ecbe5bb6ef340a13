use Rattle.std.proofs.Common.{arith, rules, ℕ, ◌<◌, ◌≡◌, ◌-◌, length, set, Option, Some, None}
use Rattle.std.proofs.lemmas.List.{get_or-set_same, length-set, set-set}
use Rattle.obligation_tree.proofs.tree.Tree.claim.Goals as goal

pub returns-clause-claimed : goal.returns-clause-claimed
returns-clause-claimed c = search (rules, set-set)

pub returns-clause-holds : goal.returns-clause-holds
returns-clause-holds c =
    let at : ℕ = c.args.worker - 1 in
    let none : Option ℕ = None in
    let within : at < length c.self.inside.claims = omega (arith, c.requires.first, c.requires.last) in
    let long : length (set c.self.inside.claims at none) ≡ length c.self.inside.claims = length-set c.self.inside.claims at none in
    get_or-set_same (set c.self.inside.claims at none) at (Some c.args.id) none (omega (arith, within, long))
