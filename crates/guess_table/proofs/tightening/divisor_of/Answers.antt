use Rattle.std.proofs.Common.{◌≡◌, ℕ, arith, ap, ◌∙◌, map}
use Rattle.std.specs.Prelude.{ℤ}
use Rattle.std.proofs.lemmas.Int.{ints}
use Rattle.int_rows.specs.Rows.{content}
use Rattle.int_rows.specs.Ready.{lin_content}
use Rattle.int_rows.proofs.ContentLemmas.{coefficients-content}
use Rattle.guess_table.proofs.tightening.divisor_of.Goals as goal

pub signed-requires : goal.signed-requires
signed-requires c =
    let bounds = coefficients-content c.args.lin.now c.requires c.terms.ensures.legal in
    let is : c.content.result ≡ lin_content c.args.lin.now = c.content.ensures ∙ ap content (ap (map (λ (t : ℕ × ℤ). t.1)) c.terms.ensures.is) in
    omega (arith, ints, is, bounds)

pub returns : goal.returns
returns c =
    let bounds = coefficients-content c.args.lin.now c.requires c.terms.ensures.legal in
    let is : c.content.result ≡ lin_content c.args.lin.now = c.content.ensures ∙ ap content (ap (map (λ (t : ℕ × ℤ). t.1)) c.terms.ensures.is) in
    omega (arith, ints, is, bounds, c.signed.ensures)
