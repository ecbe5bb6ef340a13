use Rattle.std.proofs.Common.{◌≡◌, ◌+◌, ◌*◌, ◌^◌, ◌<◌, ℕ, Fits, arith, ap, rules, ◌∙◌, mod-eq_of_lt}
use Rattle.std.specs.Int.{w64}
use Rattle.lin_atoms.proofs.wide.wide_product.Goals as goal

product_of_digits : (a b a1 a0 b1 b0 low carry lowest mid first mid' mid2 second middle high : ℕ)
    → a1 * 2 ^ 64 + a0 ≡ a → b1 * 2 ^ 64 + b0 ≡ b → low ≡ a0 * b0 → carry * 2 ^ 64 + lowest ≡ low
    → mid ≡ a1 * b0 + carry → first * 2 ^ 64 + mid' ≡ mid → mid2 ≡ a0 * b1 + mid' → second * 2 ^ 64 + middle ≡ mid2
    → high ≡ a1 * b1 → (high + first + second) * 2 ^ 128 + (middle * 2 ^ 64 + lowest) ≡ a * b
product_of_digits a b a1 a0 b1 b0 low carry lowest mid first mid' mid2 second middle high ea eb el ec em ef em2 es eh =
    let whole : (a1 * 2 ^ 64 + a0) * (b1 * 2 ^ 64 + b0) ≡ a * b = ap (λ x. x * (b1 * 2 ^ 64 + b0)) ea ∙ ap (λ y. a * y) eb in
    let apart : (a1 * 2 ^ 64 + a0) * (b1 * 2 ^ 64 + b0) ≡ (a1 * b1) * 2 ^ 128 + (a1 * b0 + a0 * b1) * 2 ^ 64 + a0 * b0 = omega arith in
    omega arith

room : (n m : ℕ) → m ≡ n → n < 2 ^ 64 → m * 2 ^ 64 < 2 ^ 128
room n m same h = omega (arith, same, h)

pub returns : goal.returns
returns c =
    let middle_fits : Fits w64 c.split-second.result.1 = search rules in
    let fits : c.from-5.result * 2 ^ 64 < 2 ^ 128 = room c.split-second.result.1 c.from-5.result c.from-5.ensures middle_fits.fits in
    let middle : c.word_product-2.result + c.from.result ≡ c.split-a_high.result.0 * c.split-b_high.result.1 + c.split-carry.result.0 =
    ap (λ z. z + c.from.result) c.word_product-2.ensures.value ∙ ap (λ z. c.split-a_high.result.0 * c.split-b_high.result.1 + z) c.from.ensures in
    let next : c.word_product-3.result + c.from-2.result ≡ c.split-a_high.result.1 * c.split-b_high.result.0 + c.split-first.result.1 =
    ap (λ z. z + c.from-2.result) c.word_product-3.ensures.value ∙ ap (λ z. c.split-a_high.result.1 * c.split-b_high.result.0 + z) c.from-2.ensures in
    rw mod-eq_of_lt (rw (c.from-3.ensures, c.from-4.ensures, c.from-5.ensures, c.from-6.ensures) (
    product_of_digits c.args.a c.args.b c.split-a_high.result.0 c.split-a_high.result.1 c.split-b_high.result.0 c.split-b_high.result.1 c.word_product.result c.split-carry.result.0 c.split-carry.result.1
    (c.word_product-2.result + c.from.result) c.split-first.result.0 c.split-first.result.1 (c.word_product-3.result + c.from-2.result) c.split-second.result.0 c.split-second.result.1 c.word_product-4.result
    c.split-a_high.ensures c.split-b_high.ensures c.word_product.ensures.value c.split-carry.ensures middle c.split-first.ensures next c.split-second.ensures c.word_product-4.ensures.value
    ))
