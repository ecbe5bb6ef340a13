use Rattle.std.proofs.Common.{ℕ, List, [], ◌∷◌, ◌++◌, ap, sym, ◌∙◌, rules, map, get_or, FitsSigned}
use Rattle.std.specs.Prelude.{ℤ, pos}
use Rattle.std.specs.Int.{w64}
use Rattle.std.proofs.lemmas.Int.{to_z-of_z}
use Rattle.std.proofs.lemmas.List.{take_all}
use Rattle.lin_atoms.specs.Algebra.{put_for}
use Rattle.lin_atoms.proofs.MergeLemmas.{mapped-more}
use Rattle.lin_atoms.proofs.algebra.with_name.Goals as goal

pub loop-old-preserved : goal.loop-old-preserved
loop-old-preserved c =
    let ts = c.args.terms.now in
    let i = c.loop-old.old-index in
    let a = (get_or ts i (0, pos 0)).1 in
    let f : ℕ × ℤ → ℕ × ℤ = λ t. (put_for c.args.name c.args.variable t.0, t.1) in
    let a_fits : FitsSigned w64 a = search rules in
    let pushed = simp to_z-of_z at c.in_ok-push.ensures.items in
    pushed ∙ ap (λ (n : ℕ). c.loop-old.made.items ++ (n, a) ∷ []) c.put_for-new.ensures
    ∙ ap (λ (us : List (ℕ × ℤ)). us ++ f (get_or ts i (0, pos 0)) ∷ []) c.loop-old.invariant ∙ sym (mapped-more f ts i (0, pos 0) c.loop-old-test.true)

pub returns : goal.returns
returns c =
    let f : ℕ × ℤ → ℕ × ℤ = λ t. (put_for c.args.name c.args.variable t.0, t.1) in
    c.loop-old.invariant ∙ ap (λ (ts : List (ℕ × ℤ)). map f ts) (take_all c.loop-old.old-index c.args.terms.now c.loop-old-test.false)
