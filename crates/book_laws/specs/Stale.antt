-- Steps whose obligation was closed since they were made.
use Rattle.std.specs.Prelude.{ℕ, Option, Some, None, slice_get}
use Rattle.clause_form.specs.System.{Clauses}
use Rattle.book_rules.specs.declared.by.By.TheVariants.{Entry}
use Rattle.book_rules.specs.Walks.{on}
use Rattle.book_rules.specs.FactRules.{rule_21}
use Rattle.book_rules.specs.Rules.{Broken, rule}
use Rattle.book_rules.specs.State.{Obligation, State}
use Rattle.book_rules.specs.Steps.{Step}

-- the obligation that a step is for: an Open's parent, and the target of a Lemma, of a Fact and of a Stall; other steps are for none
abbrev pub served : Step → Option ℕ
served (Step.Opens o) = Some o.parent
served (Step.Learns l) = Some l.target
served (Step.Records f) = f.target
served (Step.Lifts l) = None
served (Step.Raises r) = None
served (Step.Stalls t) = Some t.target
served (Step.Derives f) = None
served (Step.Strengthens l) = None

-- the entry that closed the obligation of a number
abbrev pub closed_by : State → ℕ → Option ℕ
closed_by s target = on (slice_get s.obligations target) (λ (o : Obligation). o.closed)

-- what a step is refused by where this entry has closed its obligation; of a Fact its conclusion is asked for first
abbrev pub refusal : Clauses → State → Step → ℕ → Broken
refusal sys s (Step.Opens o) entry = Some (1, Entry entry)
refusal sys s (Step.Learns l) entry = Some (13, Entry entry)
refusal sys s (Step.Records f) entry = rule 21 (rule_21 sys s f) (Some (22, Entry entry))
refusal sys s (Step.Lifts l) entry = None
refusal sys s (Step.Raises r) entry = None
refusal sys s (Step.Stalls t) entry = Some (50, Entry entry)
refusal sys s (Step.Derives f) entry = None
refusal sys s (Step.Strengthens l) entry = None
