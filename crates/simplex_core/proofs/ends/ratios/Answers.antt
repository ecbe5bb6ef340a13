use Rattle.std.proofs.Common.{◌≡◌, ◌<◌, ◌≤◌, ◌+◌, ◌++◌, ◌∷◌, [], ap, sym, ◌∙◌, arith, ℕ, length, get_or, List, subst, ⊎_elim}
use Rattle.std.specs.Prelude.{◌*ℤ◌, ◌<ℤ◌, pos}
use Rattle.std.proofs.Math.Nat.{eq-or-lt_of_le}
use Rattle.std.proofs.lemmas.List.{get_or_append_left, get_or_at, length-append}
use Rattle.lin_atoms.specs.Ratio.{Fraction}
use Rattle.int_rows.specs.Table.{width}
use Rattle.simplex_core.specs.Run.{coordinate_at, is_wide, moment}
use Rattle.simplex_core.proofs.MomentLemmas.{coordinates-at, coordinates-length}
use Rattle.simplex_core.proofs.RangeLemmas.{position-none}
use Rattle.simplex_core.proofs.ends.ratios.Goals as goal

-- the fraction is the value
abbrev Equals : Fraction → Fraction → Type 0
Equals q v = q.num *ℤ v.den ≡ v.num *ℤ q.den

pushed-positive : (xs ys : List Fraction) (q : Fraction) (n k : ℕ) (d : Fraction) → length xs ≡ n → ys ≡ xs ++ q ∷ [] → ((j : ℕ) (d : Fraction) → j < n → pos 0 <ℤ (get_or xs j d).den) → pos 0 <ℤ q.den → k < n + 1 → pos 0 <ℤ (get_or ys k d).den
pushed-positive xs ys q n k d long is before here less =
    let low : k ≤ n = omega (arith, less) in
    ⊎_elim
    (λ same. subst (λ r. pos 0 <ℤ r.den) (sym (ap (λ zs. get_or zs k d) is ∙ get_or_at xs q [] d k (omega (arith, long, same)))) here)
    (λ more. subst (λ r. pos 0 <ℤ r.den) (sym (ap (λ zs. get_or zs k d) is ∙ get_or_append_left xs (q ∷ []) d k (omega (arith, long, more)))) (before k d (omega (arith, more))))
    (eq-or-lt_of_le low)

pushed : (value : ℕ → Fraction) (xs ys : List Fraction) (q : Fraction) (n k : ℕ) (d : Fraction) → length xs ≡ n → ys ≡ xs ++ q ∷ [] → ((j : ℕ) (d : Fraction) → j < n → Equals (get_or xs j d) (value j)) → Equals q (value n) → k < n + 1 → Equals (get_or ys k d) (value k)
pushed value xs ys q n k d long is before here less =
    let low : k ≤ n = omega (arith, less) in
    ⊎_elim
    (λ same. subst (λ r. Equals r (value k)) (sym (ap (λ zs. get_or zs k d) is ∙ get_or_at xs q [] d k (omega (arith, long, same)))) (subst (λ j. Equals q (value j)) (omega (arith, same)) here))
    (λ more. subst (λ r. Equals r (value k)) (sym (ap (λ zs. get_or zs k d) is ∙ get_or_append_left xs (q ∷ []) d k (omega (arith, long, more)))) (before k d (omega (arith, more))))
    (eq-or-lt_of_le low)

pub loop-value-init : goal.loop-value-init
loop-value-init c = record { each = ap length c.in_ok-made.ensures.items; positive = λ k d h. absurd (omega arith); same = λ k d h. absurd (omega arith) }

pub loop-value-preserved : goal.loop-value-preserved
loop-value-preserved c =
    let m = moment c.args.t.now c.args.standings.now in
    let i = c.loop-value.value-index in
    let less : i < length c.args.values.now = omega arith in
    let inside : i < width c.args.t.now = omega (arith, less, ap length c.requires.values, coordinates-length m) in
    let value : c.value-item.result ≡ coordinate_at m i = c.value-item.is ∙ ap (λ qs. get_or qs i c.value-item.result) c.requires.values ∙ coordinates-at m i c.value-item.result inside in
    let here : Equals c.lowest-ratio.result (coordinate_at m i) = subst (Equals c.lowest-ratio.result) value c.lowest-ratio.ensures.same in
    let pushed_is = c.in_ok-push.ensures.items in
    record {
      each = ap length pushed_is ∙ length-append c.loop-value.made.items (c.lowest-ratio.result ∷ []) ∙ ap (λ n. n + 1) c.loop-value.invariant.each;
      positive = λ k d h. pushed-positive c.loop-value.made.items c.push.new.self.items c.lowest-ratio.result i k d c.loop-value.invariant.each pushed_is c.loop-value.invariant.positive c.num-num.ensures.lowest.positive h;
      same = λ k d h. pushed (coordinate_at m) c.loop-value.made.items c.push.new.self.items c.lowest-ratio.result i k d c.loop-value.invariant.each pushed_is c.loop-value.invariant.same here h;
    }

pub lowest-ratio-requires : goal.lowest-ratio-requires
lowest-ratio-requires c = ap is_wide c.value-item.is ∙ position-none is_wide c.args.values.now c.loop-value.value-index c.value-item.result c.requires.fitting (omega arith)

pub returns : goal.returns
returns c =
    let m = moment c.args.t.now c.args.standings.now in
    let count = ap length c.requires.values ∙ coordinates-length m in
    record {
      each = omega (arith, c.loop-value.invariant.each, count);
      positive = λ k d h. c.loop-value.invariant.positive k d (omega (arith, count, h));
      same = λ k d h. c.loop-value.invariant.same k d (omega (arith, count, h));
    }
