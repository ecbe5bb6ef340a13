use Rattle.std.proofs.Common.{ap, ◌∙◌}
use Rattle.std.specs.Prelude.{ℤ, ◌+ℤ◌, ◌*ℤ◌}
use Rattle.model_project.proofs.TermLemmas.{back-fits, exact-sum, read-product}
use Rattle.model_project.proofs.terms.products.Goals as goal

pub overflow_add-result : goal.overflow_add-result
overflow_add-result c = back-fits c.product.result c.product-2.result c.product.ensures.bound c.product-2.ensures.bound

pub returns : goal.returns
returns c =
    let one = read-product c.args.k c.args.a c.product.result c.ranges.k c.ranges.a c.product.ensures.value in
    let two = read-product c.args.m c.args.b c.product-2.result c.ranges.m c.ranges.b c.product-2.ensures.value in
    exact-sum c.product.result c.product-2.result c.product.ensures.bound c.product-2.ensures.bound ∙ ap (λ (z : ℤ). z +ℤ c.product-2.result) one
    ∙ ap (λ (z : ℤ). c.args.k *ℤ c.args.a +ℤ z) two
