use Rattle.std.proofs.Common.{ℕ, List, length, ap, ◌∙◌}
use Rattle.std.specs.Prelude.{sum}
use Rattle.worker_pool.proofs.CountLemmas.{counts-long, counts-sum}
use Rattle.worker_pool.proofs.pool.solve.Goals as goal

pub returns-then-limits-eq1-clause-each : goal.returns-then-limits-eq1-clause-each
returns-then-limits-eq1-clause-each g c =
    c.in_ok-alone.alone.counts.ok.0 ∙ ap (λ (ns : List ℕ). length ns) c.in_ok-alone.ensures.counts ∙ counts-long c.args.limits.workers c.in_ok-alone.alone.book.journal

pub returns-then-limits-eq1-clause-counts : goal.returns-then-limits-eq1-clause-counts
returns-then-limits-eq1-clause-counts g c = ap sum c.in_ok-alone.ensures.counts ∙ counts-sum c.args.limits.workers c.args.limits.nodes c.in_ok-alone.alone.book.journal c.in_ok-alone.ensures.entries

pub returns-clause-each : goal.returns-clause-each
returns-clause-each g c =
    c.in_ok-together.together.counts.ok.0 ∙ ap (λ (ns : List ℕ). length ns) c.in_ok-together.ensures.counts ∙ counts-long c.args.limits.workers c.in_ok-together.together.book.journal

pub returns-clause-counts : goal.returns-clause-counts
returns-clause-counts g c = ap sum c.in_ok-together.ensures.counts ∙ counts-sum c.args.limits.workers c.args.limits.nodes c.in_ok-together.together.book.journal c.in_ok-together.ensures.entries
