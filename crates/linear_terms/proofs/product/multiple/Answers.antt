use Rattle.std.proofs.Common.{sym, ◌∙◌}
use Rattle.linear_terms.proofs.NarrowLemmas.{short_none, wide_scaled}
use Rattle.linear_terms.proofs.product.multiple.Goals as goal

pub returns-else-is_zero-clause-wide : goal.returns-else-is_zero-clause-wide
returns-else-is_zero-clause-wide c = λ k given stopped. wide_scaled k c.args.form.now (short_none k (sym c.in-None.is ∙ given)) c.rises.ensures (sym c.is_zero.ensures ∙ c.if-is_zero.false)
