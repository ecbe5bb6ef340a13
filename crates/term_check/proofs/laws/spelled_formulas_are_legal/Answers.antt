use Rattle.term_check.proofs.LegalityLemmas.{spelled_legal, spelled_plain}
use Rattle.term_check.proofs.laws.spelled_formulas_are_legal.Goals as goal

pub returns : goal.returns
returns c = record { legal = spelled_legal; plain = spelled_plain }
