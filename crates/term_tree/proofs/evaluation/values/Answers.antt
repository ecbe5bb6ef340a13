use Rattle.std.proofs.Common.{◌≡◌, ◌+◌, ◌-◌, ◌<◌, ℕ, length, drop, get_or, ap, sym, subst, arith, refl, ◌∙◌, true}
use Rattle.std.specs.Prelude.{Some, None}
use Rattle.term_tree.specs.declared.node.TermId.{TermId}
use Rattle.term_tree.specs.Value.{environment_of}
use Rattle.term_tree.specs.machinery.Known.{AreKnown, known_worth, fitting_worth}
use Rattle.term_tree.specs.machinery.Walk.{has_number}
use Rattle.term_tree.specs.Width.{IsWideTerm}
use Rattle.term_tree.proofs.EvaluationLemmas.{known_more, fitting_more, told_wide, wide_here, has_at}
use Rattle.term_tree.proofs.evaluation.values.Goals as goal

pub loop-at-preserved : goal.loop-at-preserved
loop-at-preserved c =
    let step : c.loop-at.at - 1 + 1 ≡ c.loop-at.at = omega (arith, c.loop-at-test.true) in
    let there : c.loop-at.at - 1 < length c.args.ids.now = omega (arith, c.loop-at-test.true, c.loop-at.invariant.within) in
    let before : AreKnown c.args.terms.now.nodes (environment_of c.args.env.now) c.loop-at.known (drop (c.loop-at.at - 1 + 1) c.args.ids.now) =
    subst (λ (k : ℕ). AreKnown c.args.terms.now.nodes (environment_of c.args.env.now) c.loop-at.known (drop k c.args.ids.now)) (sym step) c.loop-at.invariant.known in
    let fitting : (q : ℕ) → has_number q (drop (c.loop-at.at - 1 + 1) c.args.ids.now) ≡ true → IsWideTerm c.args.terms.now.nodes q (environment_of c.args.env.now) → ⊥ =
    λ q h. c.loop-at.invariant.fitting q (ap (λ (k : ℕ). has_number q (drop k c.args.ids.now)) (sym step) ∙ h) in
    let found : Some c.in-Some.value ≡ fitting_worth (λ q e. known_worth c.loop-at.known q) c.node.result.now (environment_of c.args.env.now) = sym c.in-Some.is ∙ c.in_ok-value.ensures in
    record {
      within = omega (arith, c.loop-at.invariant.within);
      known = known_more c.args.terms.now.nodes (environment_of c.args.env.now) c.loop-at.known c.args.ids.now (c.loop-at.at - 1) (get_or c.args.ids.now (c.loop-at.at - 1) 0)
          c.node.result.now c.node.ensures.below c.node.ensures.is c.requires.closed there refl before c.in-Some.value c.put.new.known found (c.in_ok-put.ensures.at) (c.in_ok-put.ensures.others);
      fitting = fitting_more c.args.terms.now.nodes (environment_of c.args.env.now) c.loop-at.known c.args.ids.now (c.loop-at.at - 1) (get_or c.args.ids.now (c.loop-at.at - 1) 0)
          c.node.result.now c.node.ensures.below c.node.ensures.is c.requires.closed there refl before c.in-Some.value found fitting;
    }

pub node-requires : goal.node-requires
node-requires c =
    let there : c.loop-at.at - 1 < length c.args.ids.now = omega (arith, c.loop-at-test.true, c.loop-at.invariant.within) in
    c.requires.there (get_or c.args.ids.now (c.loop-at.at - 1) 0) (has_at c.args.ids.now (c.loop-at.at - 1) there)

pub returns-in_default-clause-wide : goal.returns-in_default-clause-wide
returns-in_default-clause-wide c = λ term h.
    let step : c.loop-at.at - 1 + 1 ≡ c.loop-at.at = omega (arith, c.loop-at-test.true) in
    let there : c.loop-at.at - 1 < length c.args.ids.now = omega (arith, c.loop-at-test.true, c.loop-at.invariant.within) in
    let before : AreKnown c.args.terms.now.nodes (environment_of c.args.env.now) c.loop-at.known (drop (c.loop-at.at - 1 + 1) c.args.ids.now) =
    subst (λ (k : ℕ). AreKnown c.args.terms.now.nodes (environment_of c.args.env.now) c.loop-at.known (drop k c.args.ids.now)) (sym step) c.loop-at.invariant.known in
    let none : None ≡ fitting_worth (λ q e. known_worth c.loop-at.known q) c.node.result.now (environment_of c.args.env.now) = sym c.in_default.is ∙ c.in_ok-value.ensures in
    let id : TermId = record { 0 = get_or c.args.ids.now (c.loop-at.at - 1) 0 } in
    let same : id ≡ term = told_wide id term h in
    let number : get_or c.args.ids.now (c.loop-at.at - 1) 0 ≡ term.0 = ap (λ (t : TermId). t.0) same in
    subst (λ (k : ℕ). (has_number k c.args.ids.now ≡ true) × IsWideTerm c.args.terms.now.nodes k (environment_of c.args.env.now)) number
    (wide_here c.args.terms.now.nodes (environment_of c.args.env.now) c.loop-at.known c.args.ids.now (c.loop-at.at - 1) (get_or c.args.ids.now (c.loop-at.at - 1) 0)
    c.node.result.now c.node.ensures.below c.node.ensures.is c.requires.closed there refl before none)
