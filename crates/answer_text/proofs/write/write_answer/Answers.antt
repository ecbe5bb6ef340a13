use Rattle.answer_text.proofs.write.write_answer.Goals as goal

pub returns-clause-spelling : goal.returns-clause-spelling
returns-clause-spelling c = λ printable. record { printable = printable; spelled = c.in_ok-text.ensures }
