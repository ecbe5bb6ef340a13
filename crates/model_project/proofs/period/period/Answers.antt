use Rattle.std.proofs.Common.{◌≡◌, ◌<◌, ◌+◌, ◌-◌, ap, sym, ◌∙◌, refl, arith, drop, get_or, length, rules, true}
use Rattle.std.proofs.lemmas.List.{get_or_default}
use Rattle.model_project.specs.Elimination.{divisor, least_multiple, period}
use Rattle.model_project.specs.Substitution.{occurs}
use Rattle.model_project.proofs.LoopLemmas.{period_rest, period_take}
use Rattle.model_project.proofs.PeriodLemmas.{least_multiple-le}
use Rattle.model_project.proofs.period.period.Goals as goal

pub loop-left-preserved : goal.loop-left-preserved
loop-left-preserved c =
    let v = c.args.variable in
    let lits = c.args.lits.now in
    let i = c.loop-left.left - 1 in
    let lit = c.index-lits-left.result in
    let inside : i < length lits = search rules in
    let next : i + 1 ≡ c.loop-left.left = omega arith in
    let has : occurs v (get_or lits i lit) ≡ true = ap (occurs v) (sym c.index-lits-left.is) ∙ sym c.occurs.ensures.is ∙ c.if-not-occurs.false in
    let again = c.index-lits-left-in-loop-left.result in
    let divisor_is : c.divisor.result ≡ divisor (get_or lits i lit) = c.divisor.ensures.is ∙ ap divisor (c.index-lits-left-in-loop-left.is ∙ get_or_default lits i again lit inside) in
    let exact : c.exact.result ≡ least_multiple (period v (drop c.loop-left.left lits)) (divisor (get_or lits i lit)) = c.exact.ensures ∙ ap (λ n. least_multiple n c.divisor.result) c.loop-left.invariant.told ∙ ap (least_multiple (period v (drop c.loop-left.left lits))) divisor_is in
    let whole : period v (drop i lits) ≡ least_multiple (period v (drop c.loop-left.left lits)) (divisor (get_or lits i lit)) = period_take v lits i lit inside has ∙ ap (λ n. least_multiple (period v (drop n lits)) (divisor (get_or lits i lit))) next in
    let same : c.in-Some.n ≡ c.exact.result = c.in-Some.ensures.some in
    let le = least_multiple-le c.loop-left.period c.divisor.result c.divisor.ensures.some in
    record {
      told = same ∙ exact ∙ sym whole;
      within = omega (arith, c.loop-left.invariant.within);
      small = rw same c.in-Some.ensures.short;
      above = omega (arith, same, c.exact.ensures, le, c.loop-left.invariant.above);
    }

pub returns-in-None-clause-none : goal.returns-in-None-clause-none
returns-in-None-clause-none c = λ _.
    let v = c.args.variable in
    let lits = c.args.lits.now in
    let i = c.loop-left.left - 1 in
    let lit = c.index-lits-left.result in
    let inside : i < length lits = search rules in
    let next : i + 1 ≡ c.loop-left.left = omega arith in
    let has : occurs v (get_or lits i lit) ≡ true = ap (occurs v) (sym c.index-lits-left.is) ∙ sym c.occurs.ensures.is ∙ c.if-not-occurs.false in
    let again = c.index-lits-left-in-loop-left.result in
    let divisor_is : c.divisor.result ≡ divisor (get_or lits i lit) = c.divisor.ensures.is ∙ ap divisor (c.index-lits-left-in-loop-left.is ∙ get_or_default lits i again lit inside) in
    let exact : c.exact.result ≡ least_multiple (period v (drop c.loop-left.left lits)) (divisor (get_or lits i lit)) = c.exact.ensures ∙ ap (λ n. least_multiple n c.divisor.result) c.loop-left.invariant.told ∙ ap (least_multiple (period v (drop c.loop-left.left lits))) divisor_is in
    let whole : period v (drop i lits) ≡ least_multiple (period v (drop c.loop-left.left lits)) (divisor (get_or lits i lit)) = period_take v lits i lit inside has ∙ ap (λ n. least_multiple (period v (drop n lits)) (divisor (get_or lits i lit))) next in
    let rest = period_rest v lits i c.requires in
    let wide = c.in-None.ensures.none refl in
    omega (arith, exact, whole, rest, wide)
