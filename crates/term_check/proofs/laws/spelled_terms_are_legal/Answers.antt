use Rattle.std.proofs.Common.{[]}
use Rattle.term_check.specs.Spelling.{scope_of}
use Rattle.term_check.proofs.LegalityLemmas.{spelled_legal}
use Rattle.term_check.proofs.laws.spelled_terms_are_legal.Goals as goal

pub returns : goal.returns
returns c = λ text preds quantifies tree s arena id arranged h at. spelled_legal text (scope_of preds [] quantifies) [] tree s arena id arranged tt h at
