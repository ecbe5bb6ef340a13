use Rattle.std.proofs.Common.{[], subst}
use Rattle.term_tree.specs.Legal.{IsLegal}
use Rattle.term_check.specs.declared.part.Part.{Part}
use Rattle.term_check.specs.Spelling.{scope_of}
use Rattle.term_check.proofs.LegalityLemmas.{spelled_legal}
use Rattle.term_check.proofs.laws.found_terms_are_legal.Goals as goal

pub returns : goal.returns
returns c = λ text preds quantifies tree arena id part next arranged found.
    subst (λ (p : Part). IsLegal preds arena.nodes [] p.sort id.0) found.3
    (spelled_legal text (scope_of preds [] quantifies) [] tree found.0 arena id.0 arranged tt found.1 found.2)
