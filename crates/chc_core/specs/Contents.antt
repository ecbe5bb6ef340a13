-- What stands in a book, as its parts have it.
use Rattle.std.specs.Prelude.{ℕ, List}
use Rattle.clause_form.specs.System.{Clauses}
use Rattle.lemma_frames.specs.Frames.{Lemmas}
use Rattle.derivations.specs.declared.fact.Fact.{Fact}
use Rattle.obligation_tree.specs.Nodes.{TreeState as Tree}
use Rattle.chc_core.specs.declared.entry.Entry.{Entry}

-- the clauses, the units given and spent, the closed level, and the journal beside lemmas, facts and obligations
pub record Contents : Type 0 where
  pub system : Clauses
  pub given : ℕ
  pub level : ℕ
  pub spent : ℕ
  pub frames : Lemmas
  pub facts : List Fact
  pub tree : Tree
  pub journal : List Entry
