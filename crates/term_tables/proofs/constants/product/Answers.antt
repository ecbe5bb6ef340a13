use Rattle.std.proofs.Common.{◌≡◌, ◌+◌, get_or, drop, rules, ap, sym, ◌∙◌, to_z, of_z, FitsSigned}
use Rattle.std.proofs.lemmas.Int.{to_z-of_z}
use Rattle.std.specs.Prelude.{ℤ, pos, Some, None, ◌*ℤ◌}
use Rattle.std.specs.Int.{w64, w128}
use Rattle.term_tables.specs.machinery.Table.{product_from, short_integer}
use Rattle.term_tables.proofs.LoopLemmas.{product_end, product_off, product_on}
use Rattle.term_tables.proofs.constants.product.Goals as goal

pub returns-in-None : goal.returns-in-None
returns-in-None c =
    let ns = c.args.constants.now in
    let total : ℤ = to_z w64 c.loop-n.total-bits in
    let item : ℤ = get_or ns c.loop-n.n-index (pos 0) in
    let item_fits : FitsSigned w64 item = search rules in
    let fits : FitsSigned w128 c.exact_product.result = search rules in
    let is : to_z w128 (of_z w128 c.exact_product.result) ≡ total *ℤ item = to_z-of_z _ _ fits ∙ c.exact_product.ensures ∙ ap (λ (k : ℤ). total *ℤ k) (to_z-of_z _ _ item_fits) in
    let short : short_integer (total *ℤ item) ≡ None = ap short_integer (sym is) ∙ sym c.if_short.ensures ∙ c.in-None.is in
    product_off total ns c.loop-n.n-index c.loop-n-test.true short ∙ c.loop-n.invariant

pub loop-n-preserved : goal.loop-n-preserved
loop-n-preserved c =
    let ns = c.args.constants.now in
    let total : ℤ = to_z w64 c.loop-n.total-bits in
    let item : ℤ = get_or ns c.loop-n.n-index (pos 0) in
    let item_fits : FitsSigned w64 item = search rules in
    let fits : FitsSigned w128 c.exact_product.result = search rules in
    let more_fits : FitsSigned w64 c.in-Some.more = search rules in
    let is : to_z w128 (of_z w128 c.exact_product.result) ≡ total *ℤ item = to_z-of_z _ _ fits ∙ c.exact_product.ensures ∙ ap (λ (k : ℤ). total *ℤ k) (to_z-of_z _ _ item_fits) in
    let short : short_integer (total *ℤ item) ≡ Some c.in-Some.more = ap short_integer (sym is) ∙ sym c.if_short.ensures ∙ c.in-Some.is in
    ap (λ (a : ℤ). product_from a (drop (c.loop-n.n-index + 1) ns)) (to_z-of_z _ _ more_fits) ∙ product_on total c.in-Some.more ns c.loop-n.n-index c.loop-n-test.true short ∙ c.loop-n.invariant

pub returns : goal.returns
returns c = product_end (to_z w64 c.loop-n.total-bits) c.args.constants.now c.loop-n.n-index c.loop-n-test.false ∙ c.loop-n.invariant
