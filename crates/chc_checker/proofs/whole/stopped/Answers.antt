use Rattle.chc_checker.proofs.whole.stopped.Goals as goal

pub returns-in-BadAnswer : goal.returns-in-BadAnswer
returns-in-BadAnswer c = λ nodes script text bad. c.wrong_at.ensures nodes script text (bad _ c.in-BadAnswer.is)
