use Rattle.std.proofs.Common.{◌≡◌, ◌<◌, ◌+◌, ◌++◌, ◌∷◌, [], ◌&&◌, ℕ, List, ap, sym, ◌∙◌, map, take, drop, length, get_or, true, false, rules, FitsSigned, refl}
use Rattle.std.specs.Prelude.{ℤ}
use Rattle.std.specs.Int.{int_div_euclid, w64}
use Rattle.std.proofs.lemmas.Int.{to_z-of_z}
use Rattle.std.proofs.lemmas.List.{take_all}
use Rattle.lin_atoms.specs.machinery.Accumulator.{Total}
use Rattle.lin_atoms.specs.Linear.{are_short, is_short}
use Rattle.farkas_proof.specs.machinery.Sum.{seen}
use Rattle.farkas_proof.proofs.SumLemmas.{divided-more, divided-rest, never}
use Rattle.farkas_proof.proofs.rounding.quotients.Goals as goal

pub loop-term-preserved : goal.loop-term-preserved
loop-term-preserved c =
    let d_fits : FitsSigned w64 c.args.divisor = c.ranges.divisor in
    let q_fits : FitsSigned w64 c.in-Some.quotient = search rules in
    let d = c.args.divisor in
    let ts = c.args.terms.now in
    let i = c.loop-term.term-index in
    let item = c.term-item.result in
    let f : ℕ × ℤ → ℕ × ℤ = λ t. (t.0, int_div_euclid t.1 d) in
    let h : i < length ts = c.loop-term-test.true in
    let known = simp to_z-of_z at c.in-Some.ensures.some in
    let small = simp to_z-of_z at (c.in-Some.ensures.short refl) in
    let pushed = simp to_z-of_z at c.in_ok-push-in-Some.ensures.items in
    let made = simp to_z-of_z at c.loop-term.invariant.made in
    let told = simp to_z-of_z at c.loop-term.invariant.told in
    let pair : (item.0, c.in-Some.quotient) ≡ f ((get_or ts i item).0, (get_or ts i item).1.value) = ap (λ q. (item.0, q)) known ∙ ap (λ (t : ℕ × Total). (t.0, int_div_euclid t.1.value d)) c.term-item.is in
    let fits : is_short (int_div_euclid (get_or ts i item).1.value d) ≡ true = ap (λ (t : ℕ × Total). is_short (int_div_euclid t.1.value d)) (sym c.term-item.is) ∙ small in
    simp to_z-of_z (record {
      made = pushed ∙ ap (λ (us : List (ℕ × ℤ)). us ++ (item.0, c.in-Some.quotient) ∷ []) made ∙ ap (λ (e : ℕ × ℤ). map f (seen (take i ts)) ++ e ∷ []) pair ∙ sym (divided-more f ts i item h);
      told = sym (ap are_short (divided-rest f ts i item h) ∙ ap (λ b. b && are_short (map f (seen (drop (i + 1) ts)))) fits) ∙ told;
    })

pub returns-clause-some : goal.returns-clause-some
returns-clause-some c =
    let d_fits : FitsSigned w64 c.args.divisor = c.ranges.divisor in
    let f : ℕ × ℤ → ℕ × ℤ = λ t. (t.0, int_div_euclid t.1 c.args.divisor) in
    let made = simp to_z-of_z at c.loop-term.invariant.made in
    made ∙ ap (λ (ts : List (ℕ × Total)). map f (seen ts)) (take_all c.loop-term.term-index c.args.terms.now c.loop-term-test.false)

pub returns-clause-none : goal.returns-clause-none
returns-clause-none c = λ no. absurd (never no)

pub returns-in-None-clause-none : goal.returns-in-None-clause-none
returns-in-None-clause-none c =
    let d_fits : FitsSigned w64 c.args.divisor = c.ranges.divisor in
    let d = c.args.divisor in
    let ts = c.args.terms.now in
    let i = c.loop-term.term-index in
    let item = c.term-item.result in
    let f : ℕ × ℤ → ℕ × ℤ = λ t. (t.0, int_div_euclid t.1 d) in
    let none = simp to_z-of_z at (c.in-None.ensures.none refl) in
    let told = simp to_z-of_z at c.loop-term.invariant.told in
    let wide : is_short (int_div_euclid (get_or ts i item).1.value d) ≡ false = ap (λ (t : ℕ × Total). is_short (int_div_euclid t.1.value d)) (sym c.term-item.is) ∙ none in
    λ _. sym told ∙ ap are_short (divided-rest f ts i item c.loop-term-test.true) ∙ ap (λ b. b && are_short (map f (seen (drop (i + 1) ts)))) wide
