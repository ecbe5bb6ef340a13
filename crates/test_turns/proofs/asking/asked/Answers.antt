use Rattle.std.proofs.Common.{ap, ◌∙◌}
use Rattle.step_rules.specs.Standing.{Standing}
use Rattle.test_turns.proofs.BookLemmas.{asks-lent}
use Rattle.test_turns.proofs.asking.asked.Goals as goal

pub ask_all-requires-clause-asks : goal.ask_all-requires-clause-asks
ask_all-requires-clause-asks g c =
    let same = c.lent.view_is ∙ c.lend-lent.ensures.is in
    asks-lent c.args.book.now _ _ (ap (λ (s : Standing). s.system) same) (ap (λ (s : Standing). s.frames) same) c.requires.can_run c.replay_law.ensures.numbered c.replay_law.ensures.over c.requires.thin
