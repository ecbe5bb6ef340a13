use Rattle.std.proofs.Common.{◌≡◌, ◌<◌, ◌+◌, ℕ, zero, suc, List, [], ◌∷◌, ◌++◌, refl, ap, sym, ◌∙◌, arith, rules, take, length, get_or, FitsSigned}
use Rattle.std.specs.Prelude.{ℤ}
use Rattle.std.specs.Int.{w64}
use Rattle.std.proofs.lemmas.Int.{to_z-of_z}
use Rattle.std.proofs.lemmas.List.{take_all}
use Rattle.lin_atoms.specs.Linear.{variable_at}
use Rattle.cube_forms.specs.Cubes.{tuple_at}
use Rattle.cube_forms.proofs.tuple.Tuple.at.Goals as goal

tuple-more : (point : List ℤ) (vs : List ℕ) (i d : ℕ) → i < length vs → tuple_at point (take (i + 1) vs) ≡ tuple_at point (take i vs) ++ variable_at point (get_or vs i d) ∷ []
tuple-more point [] i d h = absurd (omega arith)
tuple-more point (v ∷ vs) zero d h = refl
tuple-more point (v ∷ vs) (suc i) d h =
    let more : suc i + 1 ≡ suc (i + 1) = omega arith in
    ap (λ n. tuple_at point (take n (v ∷ vs))) more ∙ ap (λ (us : List ℤ). variable_at point v ∷ us) (tuple-more point vs i d (omega arith))

pub loop-arg-preserved : goal.loop-arg-preserved
loop-arg-preserved c =
    let point = c.args.point.now in
    let vs = c.args.args.now in
    let i = c.loop-arg.arg-index in
    let made = c.loop-arg.values.items in
    let r_fits : FitsSigned w64 c.variable_at.result = search rules in
    let pushed = simp to_z-of_z at c.in_ok-push.ensures.ok in
    pushed ∙ ap (λ (z : ℤ). made ++ z ∷ []) c.variable_at.ensures
    ∙ ap (λ (us : List ℤ). us ++ variable_at point (get_or vs i 0) ∷ []) c.loop-arg.invariant ∙ sym (tuple-more point vs i 0 c.loop-arg-test.true)

pub returns : goal.returns
returns c = c.loop-arg.invariant ∙ ap (tuple_at c.args.point.now) (take_all c.loop-arg.arg-index c.args.args.now c.loop-arg-test.false)
