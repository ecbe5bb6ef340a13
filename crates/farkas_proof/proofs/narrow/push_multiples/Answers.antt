use Rattle.std.proofs.Common.{◌≡◌, ◌+◌, true, ◌++◌, List, ℕ, ap, sym, ◌∙◌, drop, get_or, rules, FitsSigned}
use Rattle.std.specs.Prelude.{ℤ, pos}
use Rattle.std.specs.Int.{w64, w128}
use Rattle.std.proofs.lemmas.Int.{to_z-of_z}
use Rattle.lin_atoms.specs.Algebra.{scaled_terms, term_on}
use Rattle.lin_atoms.proofs.Public.{push-term, scaled-drop, scaled-end}
use Rattle.farkas_proof.proofs.narrow.push_multiples.Goals as goal

pub loop-variable-preserved : goal.loop-variable-preserved
loop-variable-preserved c =
    let i = c.loop-variable.variable-index in
    let k = c.args.k in
    let ts = c.args.added.now in
    let made = c.loop-variable.terms.items in
    let v = (get_or ts i (0, pos 0)).0 in
    let a = (get_or ts i (0, pos 0)).1 in
    let k_fits : FitsSigned w64 k = c.ranges.k in
    let a_fits : FitsSigned w64 a = search rules in
    let p_fits : FitsSigned w128 c.product.result = search rules in
    let done : c.push_term.result ≡ true = search rules in
    let product = simp to_z-of_z at c.product.ensures in
    let pushed = simp to_z-of_z at (c.push_term.ensures done) in
    let rest = scaled_terms k (drop (i + 1) ts) in
    simp to_z-of_z (push-term made rest c.push_term.new.terms.items v c.product.result pushed
    ∙ ap (λ z. made ++ term_on v z rest) product ∙ ap (λ (xs : List (ℕ × ℤ)). made ++ xs) (sym (scaled-drop k ts i (0, pos 0) c.loop-variable-test.true)) ∙ simp to_z-of_z at c.loop-variable.invariant)

pub returns : goal.returns
returns c =
    let k_fits : FitsSigned w64 c.args.k = c.ranges.k in
    λ _. scaled-end c.args.k c.loop-variable.terms.items c.args.added.now _ c.loop-variable.variable-index c.loop-variable-test.false (simp to_z-of_z at c.loop-variable.invariant)
