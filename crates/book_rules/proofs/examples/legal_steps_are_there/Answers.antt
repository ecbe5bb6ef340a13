use Rattle.book_rules.proofs.ExampleLemmas.{raise_is_legal, open_is_legal, lemma_is_legal, again_is_legal, fact_is_legal}
use Rattle.book_rules.proofs.examples.legal_steps_are_there.Goals as goal

pub returns-clause-raise : goal.returns-clause-raise
returns-clause-raise c = raise_is_legal

pub returns-clause-open : goal.returns-clause-open
returns-clause-open c = open_is_legal

pub returns-clause-lemma : goal.returns-clause-lemma
returns-clause-lemma c = lemma_is_legal

pub returns-clause-again : goal.returns-clause-again
returns-clause-again c = again_is_legal

pub returns-clause-fact : goal.returns-clause-fact
returns-clause-fact c = fact_is_legal
