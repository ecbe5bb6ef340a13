use Rattle.answer_laws.proofs.ReadBackLemmas.{read_back, solved}
use Rattle.answer_laws.proofs.laws.printed_models_are_solutions.Goals as goal

pub returns : goal.returns
returns c = record {
  accepted = λ bytes printed h. (read_back bytes printed h).accepted;
  same = λ bytes printed h. (read_back bytes printed h).same;
  solution = solved c.same_tree_same_value.ensures.value c.same_values_same_solution.ensures c.spelled_formulas_are_legal.ensures.plain;
}
