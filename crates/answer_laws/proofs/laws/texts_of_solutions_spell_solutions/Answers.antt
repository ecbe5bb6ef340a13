use Rattle.answer_laws.proofs.ReadBackLemmas.{all_solved}
use Rattle.answer_laws.proofs.laws.texts_of_solutions_spell_solutions.Goals as goal

pub returns : goal.returns
returns c = all_solved c.same_tree_same_value.ensures.value c.same_values_same_solution.ensures c.spelled_formulas_are_legal.ensures.plain
