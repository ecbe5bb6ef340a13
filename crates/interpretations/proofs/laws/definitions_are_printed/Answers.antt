use Rattle.interpretations.proofs.PrintLemmas.{all-made-of-lemmas, defines-each}
use Rattle.interpretations.proofs.laws.definitions_are_printed.Goals as goal

pub returns : goal.returns
returns c = record { defined = λ lemmas k preds definitions. defines-each lemmas k 0 preds definitions; printed = λ lemmas k preds definitions. all-made-of-lemmas lemmas k preds definitions }
