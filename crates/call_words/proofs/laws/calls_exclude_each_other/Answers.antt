use Rattle.call_words.proofs.CallLemmas.{apart, apart_gen, check_apart, one_number, one_seed}
use Rattle.call_words.proofs.laws.calls_exclude_each_other.Goals as goal

pub returns-clause-nodes : goal.returns-clause-nodes
returns-clause-nodes c = one_number

pub returns-clause-seeds : goal.returns-clause-seeds
returns-clause-seeds c = one_seed

pub returns-clause-apart : goal.returns-clause-apart
returns-clause-apart c = apart

pub returns-clause-apart_gen : goal.returns-clause-apart_gen
returns-clause-apart_gen c = apart_gen

pub returns-clause-check_apart : goal.returns-clause-check_apart
returns-clause-check_apart c = check_apart
