-- The first rule that a step breaks, with what breaks it. The rules of a kind of step are tried in the order of their numbers.
use Rattle.std.specs.Prelude.{ℕ, Option, Some, None}
use Rattle.clause_form.specs.System.{Clauses}
use Rattle.book_rules.specs.declared.by.By.{By}
use Rattle.book_rules.specs.OpenRules.{rule_1, rule_2, rule_3, rule_4, rule_5, rule_6, rule_7, rule_8, rule_9}
use Rattle.book_rules.specs.LemmaRules.{rule_10, rule_11, rule_12, rule_13, rule_14, rule_30, rule_31, rule_32, rule_33}
use Rattle.book_rules.specs.FactRules.{rule_20, rule_21, rule_22, rule_23, rule_70, rule_71}
use Rattle.book_rules.specs.RaiseRules.{rule_40, rule_41, rule_42, rule_43, rule_44}
use Rattle.book_rules.specs.StallRules.{rule_50, rule_51, rule_52, rule_53, rule_54}
use Rattle.book_rules.specs.StrengthenRules.{rule_80, rule_81, rule_82, rule_83}
use Rattle.book_rules.specs.State.{State}
use Rattle.book_rules.specs.Steps.{OpenStep, LemmaStep, FactStep, LiftStep, RaiseStep, StallStep, DeriveStep, StrengthenStep, Step}

abbrev pub Broken : Type 0
Broken = Option (ℕ × By)

-- rule n, and then the others
abbrev pub rule : ℕ → Option By → Broken → Broken
rule n None others = others
rule n (Some by) others = Some (n, by)

abbrev pub broken_open : Clauses → State → OpenStep → Broken
broken_open sys s o =
    rule 1 (rule_1 s o) (rule 2 (rule_2 s o) (rule 3 (rule_3 sys s o) (rule 4 (rule_4 sys s o) (rule 5 (rule_5 sys s o)
    (rule 6 (rule_6 sys s o) (rule 7 (rule_7 sys s o) (rule 8 (rule_8 s o) (rule 9 (rule_9 sys s o) None))))))))

abbrev pub broken_lemma : Clauses → State → LemmaStep → Broken
broken_lemma sys s l = rule 10 (rule_10 s l) (rule 11 (rule_11 sys l) (rule 12 (rule_12 sys s l) (rule 13 (rule_13 s l) (rule 14 (rule_14 s l) None))))

abbrev pub broken_fact : Clauses → State → FactStep → Broken
broken_fact sys s f = rule 20 (rule_20 sys s f) (rule 21 (rule_21 sys s f) (rule 22 (rule_22 sys s f) (rule 23 (rule_23 sys s f) None)))

abbrev pub broken_lift : Clauses → State → LiftStep → Broken
broken_lift sys s l = rule 30 (rule_30 s l) (rule 31 (rule_31 s l) (rule 32 (rule_32 sys s l) (rule 33 (rule_33 sys s l) None)))

abbrev pub broken_raise : Clauses → State → RaiseStep → Broken
broken_raise sys s r = rule 40 (rule_40 sys s r) (rule 41 (rule_41 sys s r) (rule 42 (rule_42 sys s r) (rule 43 (rule_43 sys s r) (rule 44 (rule_44 sys s r) None))))

abbrev pub broken_stall : Clauses → State → StallStep → Broken
broken_stall sys s t = rule 50 (rule_50 s t) (rule 51 (rule_51 s t) (rule 52 (rule_52 sys s t) (rule 53 (rule_53 sys s t) (rule 54 (rule_54 s t) None))))

abbrev pub broken_derive : Clauses → State → DeriveStep → Broken
broken_derive sys s f = rule 70 (rule_70 sys s f) (rule 71 (rule_71 sys s f) None)

abbrev pub broken_strengthen : Clauses → State → StrengthenStep → Broken
broken_strengthen sys s l = rule 80 (rule_80 sys l) (rule 81 (rule_81 s l) (rule 82 (rule_82 sys l) (rule 83 (rule_83 sys s l) None)))

abbrev pub broken : Clauses → State → Step → Broken
broken sys s (Step.Opens o) = broken_open sys s o
broken sys s (Step.Learns l) = broken_lemma sys s l
broken sys s (Step.Records f) = broken_fact sys s f
broken sys s (Step.Lifts l) = broken_lift sys s l
broken sys s (Step.Raises r) = broken_raise sys s r
broken sys s (Step.Stalls t) = broken_stall sys s t
broken sys s (Step.Derives f) = broken_derive sys s f
broken sys s (Step.Strengthens l) = broken_strengthen sys s l
