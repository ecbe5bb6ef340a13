use Rattle.std.proofs.Common.{◌≡◌, ap, ◌∙◌, map, true, false, List, ℕ, FitsSigned}
use Rattle.std.specs.Prelude.{ℤ, IfOk, OnOk, IsErrOf}
use Rattle.std.specs.Int.{w128}
use Rattle.std.proofs.lemmas.Int.{to_z-of_z}
use Rattle.lin_atoms.specs.Linear.{Linear, fits}
use Rattle.lin_atoms.specs.Algebra.{collected, put_for}
use Rattle.lin_atoms.specs.declared.stop.WideStop.TheVariants.{Wide}
use Rattle.lin_atoms.proofs.LinearLemmas.{of-parts}
use Rattle.lin_atoms.proofs.lin.Lin.replaced.Goals as goal

pub returns-clause-made : goal.returns-clause-made
returns-clause-made c =
    let n_fits : FitsSigned w128 c.constant-constant.result = record { sfits = c.constant-constant.type_inv } in
    let told = simp to_z-of_z at c.of_wide.ensures.made in
    of-parts (λ (l : Linear). IfOk c.of_wide.result (λ (made : Linear). made ≡ l)) c.in_ok-terms.terms.items _ c.constant-constant.result _
    (c.in_ok-terms.ensures.made ∙ ap collected (c.as_slice.ensures.value ∙ c.in_ok-named.ensures ∙ ap (λ (ts : List (ℕ × ℤ)). map (λ t. (put_for c.args.name c.args.variable t.0, t.1)) ts) c.terms.ensures.is))
    (c.constant-constant.ensures.is)
    told

pub returns-clause-within : goal.returns-clause-within
returns-clause-within c =
    let n_fits : FitsSigned w128 c.constant-constant.result = record { sfits = c.constant-constant.type_inv } in
    let told = simp to_z-of_z at c.of_wide.ensures.within in
    of-parts (λ (l : Linear). OnOk c.of_wide.result (fits l ≡ true)) c.in_ok-terms.terms.items _ c.constant-constant.result _
    (c.in_ok-terms.ensures.made ∙ ap collected (c.as_slice.ensures.value ∙ c.in_ok-named.ensures ∙ ap (λ (ts : List (ℕ × ℤ)). map (λ t. (put_for c.args.name c.args.variable t.0, t.1)) ts) c.terms.ensures.is))
    (c.constant-constant.ensures.is)
    told

pub returns-clause-wide : goal.returns-clause-wide
returns-clause-wide c =
    let n_fits : FitsSigned w128 c.constant-constant.result = record { sfits = c.constant-constant.type_inv } in
    let told = simp to_z-of_z at c.of_wide.ensures.wide in
    of-parts (λ (l : Linear). IsErrOf c.of_wide.result Wide → fits l ≡ false) c.in_ok-terms.terms.items _ c.constant-constant.result _
    (c.in_ok-terms.ensures.made ∙ ap collected (c.as_slice.ensures.value ∙ c.in_ok-named.ensures ∙ ap (λ (ts : List (ℕ × ℤ)). map (λ t. (put_for c.args.name c.args.variable t.0, t.1)) ts) c.terms.ensures.is))
    (c.constant-constant.ensures.is)
    told
