use Rattle.term_tree.proofs.SameLemmas.{same_value, same_meaning}
use Rattle.term_tree.proofs.laws.same_tree_same_value.Goals as goal

pub returns : goal.returns
returns c = record {
  value = λ nodes others id other env arena other_arena h. same_value nodes others arena other_arena id other env h;
  meaning = λ I nodes others id other env v arena other_arena h. let m = same_meaning nodes others arena other_arena I id other env v h in (m.forth, m.back);
}
