use Rattle.std.proofs.Common.{◌≡◌, ap, ◌∙◌, true, false, List, ℕ, FitsSigned}
use Rattle.std.specs.Prelude.{ℤ, ◌*ℤ◌, IfOk, OnOk, IsErrOf}
use Rattle.std.specs.Int.{w64, w128}
use Rattle.std.proofs.lemmas.Int.{to_z-of_z}
use Rattle.lin_atoms.specs.Linear.{Linear, fits}
use Rattle.lin_atoms.specs.Algebra.{scaled_terms}
use Rattle.lin_atoms.specs.declared.stop.WideStop.TheVariants.{Wide}
use Rattle.lin_atoms.proofs.LinearLemmas.{of-parts}
use Rattle.lin_atoms.proofs.lin.Lin.scaled.Goals as goal

pub returns-clause-made : goal.returns-clause-made
returns-clause-made c =
    let k_fits : FitsSigned w64 c.args.k = c.ranges.k in
    let m_fits : FitsSigned w128 c.constant.result = record { sfits = c.constant.type_inv } in
    let n_fits : FitsSigned w128 c.product-constant.result = record { sfits = c.product-constant.type_inv } in
    let told = simp to_z-of_z at c.of_wide.ensures.made in
    of-parts (λ (l : Linear). IfOk c.of_wide.result (λ (made : Linear). made ≡ l)) c.in_ok-terms.terms.items _ c.product-constant.result _
    ((simp to_z-of_z at c.in_ok-terms.ensures.made) ∙ ap (λ (ts : List (ℕ × ℤ)). scaled_terms c.args.k ts) c.terms.ensures.is)
    ((simp to_z-of_z at c.product-constant.ensures) ∙ ap (λ n. c.args.k *ℤ n) c.constant.ensures.is)
    told

pub returns-clause-within : goal.returns-clause-within
returns-clause-within c =
    let k_fits : FitsSigned w64 c.args.k = c.ranges.k in
    let m_fits : FitsSigned w128 c.constant.result = record { sfits = c.constant.type_inv } in
    let n_fits : FitsSigned w128 c.product-constant.result = record { sfits = c.product-constant.type_inv } in
    let told = simp to_z-of_z at c.of_wide.ensures.within in
    of-parts (λ (l : Linear). OnOk c.of_wide.result (fits l ≡ true)) c.in_ok-terms.terms.items _ c.product-constant.result _
    ((simp to_z-of_z at c.in_ok-terms.ensures.made) ∙ ap (λ (ts : List (ℕ × ℤ)). scaled_terms c.args.k ts) c.terms.ensures.is)
    ((simp to_z-of_z at c.product-constant.ensures) ∙ ap (λ n. c.args.k *ℤ n) c.constant.ensures.is)
    told

pub returns-clause-wide : goal.returns-clause-wide
returns-clause-wide c =
    let k_fits : FitsSigned w64 c.args.k = c.ranges.k in
    let m_fits : FitsSigned w128 c.constant.result = record { sfits = c.constant.type_inv } in
    let n_fits : FitsSigned w128 c.product-constant.result = record { sfits = c.product-constant.type_inv } in
    let told = simp to_z-of_z at c.of_wide.ensures.wide in
    of-parts (λ (l : Linear). IsErrOf c.of_wide.result Wide → fits l ≡ false) c.in_ok-terms.terms.items _ c.product-constant.result _
    ((simp to_z-of_z at c.in_ok-terms.ensures.made) ∙ ap (λ (ts : List (ℕ × ℤ)). scaled_terms c.args.k ts) c.terms.ensures.is)
    ((simp to_z-of_z at c.product-constant.ensures) ∙ ap (λ n. c.args.k *ℤ n) c.constant.ensures.is)
    told
