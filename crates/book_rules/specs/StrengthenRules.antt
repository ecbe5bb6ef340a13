-- The rules of Strengthen, by their numbers: what breaks each of them, if anything. It adds a lemma as a Lemma does, for no
-- obligation.
use Rattle.std.specs.Prelude.{Option, Some, None, if◌then◌else◌}
use Rattle.clause_form.specs.System.{Clauses}
use Rattle.book_rules.specs.declared.by.By.{By}
use Rattle.book_rules.specs.declared.by.By.TheVariants.{Step as ByStep}
use Rattle.book_rules.specs.LemmaRules.{unfounded, unless_level, unproved}
use Rattle.book_rules.specs.Places.{is_over}
use Rattle.book_rules.specs.State.{State}
use Rattle.book_rules.specs.Steps.{StrengthenStep}

-- 80: the predicate is there, and has each place of the lemma
abbrev pub rule_80 : Clauses → StrengthenStep → Option By
rule_80 sys l = if is_over sys.preds l.lemma.pred l.lemma.cube then None else Some ByStep

-- 81: the level is from 1 to N
abbrev pub rule_81 : State → StrengthenStep → Option By
rule_81 s l = unless_level s l.level

-- 82: each clause of that head has a proof of this lemma
abbrev pub rule_82 : Clauses → StrengthenStep → Option By
rule_82 sys l = unproved sys l.lemma l.level l.proofs

-- 83: each used lemma is in F(level - 1), or this lemma on its own predicate
abbrev pub rule_83 : Clauses → State → StrengthenStep → Option By
rule_83 sys s l = unfounded sys s.lemmas l.lemma l.level l.proofs
