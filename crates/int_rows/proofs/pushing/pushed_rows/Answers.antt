use Rattle.int_rows.specs.declared.stop.PushStop.TheVariants.{Wide}
use Rattle.int_rows.proofs.MadeLemmas.{no-refusal}
use Rattle.int_rows.proofs.pushing.pushed_rows.Goals as goal

pub returns-clause-wide : goal.returns-clause-wide
returns-clause-wide c = λ w e. absurd (no-refusal c.in_ok-with_row.field-0 (Wide w) e)
