use Rattle.std.proofs.Common.{sym, ◌∙◌, to_z}
use Rattle.std.specs.Int.{w64}
use Rattle.term_tree.specs.Constants.{constants_among}
use Rattle.term_tree.specs.Operators.{product_of}
use Rattle.linear_terms.proofs.NarrowLemmas.{product_wide, zero_among}
use Rattle.linear_terms.proofs.product.product.Goals as goal

pub returns-then-has_zero : goal.returns-then-has_zero
returns-then-has_zero c = zero_among c.args.constants.now (sym c.has_zero.ensures ∙ c.if-has_zero.true)

pub returns-in-None : goal.returns-in-None
returns-in-None c =
    product_wide (to_z w64 c.loop-constant.product-bits) c.args.constants.now c.loop-constant.constant-index _ (product_of (constants_among c.args.constants.now)) c.loop-constant-test.true
    c.loop-constant.invariant.told c.loop-constant.invariant.whole (sym c.in-None.is ∙ c.times.ensures)
