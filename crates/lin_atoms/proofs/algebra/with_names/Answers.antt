use Rattle.std.proofs.Common.{ℕ, List, [], ◌∷◌, ◌++◌, ap, sym, ◌∙◌, rules, map, get_or, FitsSigned}
use Rattle.std.specs.Prelude.{ℤ, pos}
use Rattle.std.specs.Int.{w64}
use Rattle.std.proofs.lemmas.Int.{to_z-of_z}
use Rattle.std.proofs.lemmas.List.{take_all}
use Rattle.lin_atoms.specs.Algebra.{name_in}
use Rattle.lin_atoms.proofs.MergeLemmas.{mapped-more}
use Rattle.lin_atoms.proofs.algebra.with_names.Goals as goal

pub loop-variable-preserved : goal.loop-variable-preserved
loop-variable-preserved c =
    let ts = c.args.terms.now in
    let i = c.loop-variable.variable-index in
    let a = (get_or ts i (0, pos 0)).1 in
    let f : ℕ × ℤ → ℕ × ℤ = λ t. (name_in c.args.names.now t.0, t.1) in
    let a_fits : FitsSigned w64 a = search rules in
    let pushed = simp to_z-of_z at c.in_ok-push.ensures.items in
    pushed ∙ ap (λ (n : ℕ). c.loop-variable.made.items ++ (n, a) ∷ []) c.name_in-name.ensures
    ∙ ap (λ (us : List (ℕ × ℤ)). us ++ f (get_or ts i (0, pos 0)) ∷ []) c.loop-variable.invariant ∙ sym (mapped-more f ts i (0, pos 0) c.loop-variable-test.true)

pub returns : goal.returns
returns c =
    let f : ℕ × ℤ → ℕ × ℤ = λ t. (name_in c.args.names.now t.0, t.1) in
    c.loop-variable.invariant ∙ ap (λ (ts : List (ℕ × ℤ)). map f ts) (take_all c.loop-variable.variable-index c.args.terms.now c.loop-variable-test.false)
