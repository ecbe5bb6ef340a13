use Rattle.std.proofs.Common.{◌≡◌, ℕ, List, sym, ◌∙◌, drop, get_or, rules, true, FitsSigned}
use Rattle.std.specs.Prelude.{ℤ, pos}
use Rattle.std.specs.Int.{w64}
use Rattle.std.proofs.lemmas.Int.{to_z-of_z}
use Rattle.lin_atoms.specs.Linear.{are_ordered, are_short}
use Rattle.lin_atoms.proofs.LinearLemmas.{small_at}
use Rattle.model_project.specs.Substitution.{coefficient_in}
use Rattle.model_project.proofs.TermLemmas.{found-at, gone-at, legal_order, legal_small}
use Rattle.model_project.proofs.reading.coefficient.Goals as goal

pub returns-then-v-variable-clause-is : goal.returns-then-v-variable-clause-is
returns-then-v-variable-clause-is c =
    let i = c.loop-v.v-index in
    let terms : List (ℕ × ℤ) = c.terms-v-items.result.now in
    let a_fits : FitsSigned w64 (get_or terms i (0, pos 0)).1 = search rules in
    let here : are_ordered 0 terms ≡ true = rw c.terms-v-items.ensures.is (legal_order c.args.lin.now c.terms-v-items.ensures.legal) in
    let told : coefficient_in c.args.variable (drop i terms) ≡ coefficient_in c.args.variable c.args.lin.now.terms = rw c.terms-v-items.ensures.is c.loop-v.invariant in
    simp to_z-of_z (sym (found-at terms i (0, pos 0) c.args.variable c.loop-v-test.true here c.if-v-variable.true) ∙ told)

pub returns-then-v-variable-clause-short : goal.returns-then-v-variable-clause-short
returns-then-v-variable-clause-short c =
    let i = c.loop-v.v-index in
    let terms : List (ℕ × ℤ) = c.terms-v-items.result.now in
    let a_fits : FitsSigned w64 (get_or terms i (0, pos 0)).1 = search rules in
    let here : are_short terms ≡ true = rw c.terms-v-items.ensures.is (legal_small c.args.lin.now c.terms-v-items.ensures.legal) in
    simp to_z-of_z (small_at terms i (0, pos 0) c.loop-v-test.true here)

pub returns-then-v-variable-2-clause-is : goal.returns-then-v-variable-2-clause-is
returns-then-v-variable-2-clause-is c =
    let i = c.loop-v.v-index in
    let terms : List (ℕ × ℤ) = c.terms-v-items.result.now in
    let here : are_ordered 0 terms ≡ true = rw c.terms-v-items.ensures.is (legal_order c.args.lin.now c.terms-v-items.ensures.legal) in
    let told : coefficient_in c.args.variable (drop i terms) ≡ coefficient_in c.args.variable c.args.lin.now.terms = rw c.terms-v-items.ensures.is c.loop-v.invariant in
    sym (gone-at terms i (0, pos 0) c.args.variable c.loop-v-test.true here c.if-v-variable-2.true) ∙ told
