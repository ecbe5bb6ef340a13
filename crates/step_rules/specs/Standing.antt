-- What stands in a book while a step's rules are tried, and the state of which the rules speak.
use Rattle.std.specs.Prelude.{◌<◌, ◌^◌, ℕ, List, length}
use Rattle.clause_form.specs.System.{Clauses}
use Rattle.lemma_frames.specs.Frames.{Lemmas}
use Rattle.derivations.specs.declared.fact.Fact.{Fact}
use Rattle.obligation_tree.specs.Nodes.{TreeState as Tree}
use Rattle.book_rules.specs.Places.{AreOver}
use Rattle.book_rules.specs.Rooted.{IsRooted}
use Rattle.book_rules.specs.State.{State}
use Rattle.cube_rules.specs.Views.{lemmas_of}
use Rattle.step_rules.specs.Views.{facts_of, obligations_of}
use Rattle.step_rules.specs.Falsity.{IsLastFalse}

-- the clauses, the units given and spent, the closed level, and how many entries the journal has, beside lemmas, facts and obligations
pub record Standing : Type 0 where
  pub system : Clauses
  pub given : ℕ
  pub level : ℕ
  pub spent : ℕ
  pub entries : ℕ
  pub frames : Lemmas
  pub facts : List Fact
  pub tree : Tree

-- claims are no part of it
abbrev pub standing_state : Standing → State
standing_state b = record { level = b.level; lemmas = lemmas_of b.frames.lemmas; facts = facts_of b.facts; obligations = obligations_of b.tree.nodes; given = b.given; spent = b.spent; entries = b.entries }

-- clauses and predicates have numbers of 32 bits
abbrev pub IsNumbered : Clauses → Type 0
IsNumbered sys = (length sys.clauses < 2 ^ 32) × (length sys.preds < 2 ^ 32)

-- what rules are tried in: the root stands above all, cubes are over their predicates, and false is the last fact
pub record IsStanding (b : Standing) : Type 0 where
  pub numbered : IsNumbered b.system
  pub rooted : IsRooted (standing_state b)
  pub over : AreOver b.system (standing_state b)
  pub false_last : IsLastFalse b.facts
