use Rattle.std.proofs.Common.{◌≡◌, rules, true}
use Rattle.std.specs.List.{list_all, list_any}
use Rattle.lin_atoms.specs.Truth.{truth}
use Rattle.lia_stack.proofs.StateLemmas.{met}
use Rattle.lia_stack.proofs.TurnLemmas.{top}
use Rattle.lia_stack.proofs.state.Search.meet_cases.Goals as goal

pub returns-in-None : goal.returns-in-None
returns-in-None c =
    let cases : list_all (list_any (truth c.args.point.items)) c.args.waiting.cases ≡ true = search rules in
    let m = met c.args.self.now c.args.waiting c.args.point.items (top _ _ c.requires.is) c.requires.each c.requires.holds c.requires.left cases in
    (m.0, c.requires.short, m.1)
