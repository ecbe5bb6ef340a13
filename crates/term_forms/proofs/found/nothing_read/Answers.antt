use Rattle.term_forms.proofs.FoundLemmas.{none_found}
use Rattle.term_forms.proofs.found.nothing_read.Goals as goal

pub returns : goal.returns
returns c = λ constant naming nodes. none_found constant naming nodes c.new.result c.new.ensures.empty
