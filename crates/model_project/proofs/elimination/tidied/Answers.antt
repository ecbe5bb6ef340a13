use Rattle.std.proofs.Common.{◌≡◌, ◌++◌, ◌∷◌, [], List, Bool, true, false, rules, ap, sym, subst, ◌∙◌, get_or}
use Rattle.std.specs.Prelude.{if◌then◌else◌}
use Rattle.lin_atoms.specs.declared.lit.Lit.{Lit}
use Rattle.model_project.specs.Elimination.{has_short_numbers, has_variable}
use Rattle.model_project.proofs.JudgeLemmas.{tidied-end, tidied-push, tidied-skip, tidied-stop}
use Rattle.model_project.proofs.elimination.tidied.Goals as goal

pushed : (made new : List Lit) (lit : Lit) (b : Bool) → true ≡ b → new ≡ (if b then made ++ lit ∷ [] else made) → new ≡ made ++ lit ∷ []
pushed made new lit b ok is = subst (λ c. new ≡ (if c then made ++ lit ∷ [] else made)) (sym ok) is

pub loop-lit-preserved-then-not-has_variable : goal.loop-lit-preserved-then-not-has_variable
loop-lit-preserved-then-not-has_variable c =
    let lits = c.args.lits.now in
    let i = c.loop-lit.lit-index in
    let lit = c.lit-item.result in
    let free : has_variable (get_or lits i lit) ≡ false = ap has_variable (sym c.lit-item.is) ∙ sym c.has_variable.ensures ∙ c.if-not-has_variable.true in
    tidied-skip lits c.loop-lit.made.items _ i lit c.loop-lit-test.true free c.loop-lit.invariant

pub loop-lit-preserved : goal.loop-lit-preserved
loop-lit-preserved c =
    let lits = c.args.lits.now in
    let i = c.loop-lit.lit-index in
    let lit = c.lit-item.result in
    let made = c.loop-lit.made.items in
    let has : has_variable (get_or lits i lit) ≡ true = ap has_variable (sym c.lit-item.is) ∙ sym c.has_variable.ensures ∙ c.if-not-has_variable.false in
    let short : has_short_numbers (get_or lits i lit) ≡ true = ap has_short_numbers (sym c.lit-item.is) ∙ sym c.has_short_numbers.ensures ∙ c.if-not-has_short_numbers.false in
    let same : c.in_ok-copied.copied ≡ lit = search rules in
    let put = pushed made c.push.new.self.items c.in_ok-copied.copied _ c.in_ok-map_err.ensures.variant c.push.ensures.items in
    tidied-push lits made c.push.new.self.items _ i lit c.loop-lit-test.true has short (put ∙ ap (λ x. made ++ x ∷ []) (same ∙ c.lit-item.is)) c.loop-lit.invariant

pub returns-clause-made : goal.returns-clause-made
returns-clause-made c = tidied-end c.args.lits.now c.loop-lit.made.items _ c.loop-lit.lit-index c.loop-lit-test.false c.loop-lit.invariant

pub returns-then-not-has_short_numbers-clause-wide : goal.returns-then-not-has_short_numbers-clause-wide
returns-then-not-has_short_numbers-clause-wide c = λ _.
    let lits = c.args.lits.now in
    let i = c.loop-lit.lit-index in
    let lit = c.lit-item.result in
    let has : has_variable (get_or lits i lit) ≡ true = ap has_variable (sym c.lit-item.is) ∙ sym c.has_variable.ensures ∙ c.if-not-has_variable.false in
    let wide : has_short_numbers (get_or lits i lit) ≡ false = ap has_short_numbers (sym c.lit-item.is) ∙ sym c.has_short_numbers.ensures ∙ c.if-not-has_short_numbers.true in
    tidied-stop lits c.loop-lit.made.items _ i lit c.loop-lit-test.true has wide c.loop-lit.invariant
