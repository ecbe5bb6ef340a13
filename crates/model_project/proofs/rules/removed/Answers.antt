use Rattle.std.proofs.Common.{◌≡◌, ap, sym, ◌∙◌, subst, refl, true, false, Some, None, Option, List}
use Rattle.std.specs.Prelude.{OnOk}
use Rattle.std.specs.List.{list_any}
use Rattle.lin_atoms.specs.declared.lit.Lit.{Lit}
use Rattle.model_project.specs.Elimination.{is_bound}
use Rattle.model_project.specs.Substitution.{equation_in, occurs}
use Rattle.model_project.specs.machinery.Steps.{EquationIs}
use Rattle.model_project.proofs.LoopLemmas.{equation_above, removed_above, removed_below, removed_rest, removed_solved}
use Rattle.model_project.proofs.rules.removed.Goals as goal

pub substitute-requires-clause-above : goal.substitute-requires-clause-above
substitute-requires-clause-above c =
    let is : EquationIs c.args.variable c.in-Some.equation c.as_slice-2.result.now = rw c.in-Some.is at c.in_ok-equation.ensures.some in
    equation_above c.args.variable c.in-Some.equation c.as_slice-2.result.now is

pub returns-in-Some-clause-made : goal.returns-in-Some-clause-made
returns-in-Some-clause-made c =
    let v = c.args.variable in
    let lits = c.args.lits.now.items in
    let some : list_any (occurs v) lits ≡ true = ap (list_any (occurs v)) (sym c.as_slice.ensures.value) ∙ sym c.occurs_in.ensures.is ∙ c.if-not-occurs_in.false in
    let there : EquationIs v c.in-Some.equation c.as_slice-2.result.now = rw c.in-Some.is at c.in_ok-equation.ensures.some in
    let is : EquationIs v c.in-Some.equation lits = subst (λ xs. EquationIs v c.in-Some.equation xs) c.as_slice-2.ensures.value there in
    subst (λ (x : Option (List Lit)). OnOk c.substitute.result (x ≡ Some c.substitute.new.lits.items)) (sym (removed_solved c.args.model.now v lits c.in-Some.equation some is)) c.substitute.ensures.made

pub returns-in-Some-clause-wide : goal.returns-in-Some-clause-wide
returns-in-Some-clause-wide c = λ wide.
    let v = c.args.variable in
    let lits = c.args.lits.now.items in
    let some : list_any (occurs v) lits ≡ true = ap (list_any (occurs v)) (sym c.as_slice.ensures.value) ∙ sym c.occurs_in.ensures.is ∙ c.if-not-occurs_in.false in
    let there : EquationIs v c.in-Some.equation c.as_slice-2.result.now = rw c.in-Some.is at c.in_ok-equation.ensures.some in
    let is : EquationIs v c.in-Some.equation lits = subst (λ xs. EquationIs v c.in-Some.equation xs) c.as_slice-2.ensures.value there in
    removed_solved c.args.model.now v lits c.in-Some.equation some is ∙ c.substitute.ensures.wide wide

pub returns-then-has_bound-clause-made : goal.returns-then-has_bound-clause-made
returns-then-has_bound-clause-made c =
    let v = c.args.variable in
    let lits = c.args.lits.now.items in
    let some : list_any (occurs v) lits ≡ true = ap (list_any (occurs v)) (sym c.as_slice.ensures.value) ∙ sym c.occurs_in.ensures.is ∙ c.if-not-occurs_in.false in
    let none : equation_in v lits ≡ None = ap (equation_in v) (sym c.as_slice-2.ensures.value) ∙ (rw c.in-None.is at c.in_ok-equation.ensures.none) refl in
    let low : list_any (is_bound true v) lits ≡ true = ap (list_any (is_bound true v)) (sym c.as_slice-in-None.ensures.value) ∙ sym c.has_bound.ensures ∙ c.if-has_bound.true in
    subst (λ (x : Option (List Lit)). OnOk c.by_bounds.result (x ≡ Some c.by_bounds.new.lits.items)) (sym (removed_below c.args.model.now v lits some none low)) c.by_bounds.ensures.made

pub returns-then-has_bound-clause-wide : goal.returns-then-has_bound-clause-wide
returns-then-has_bound-clause-wide c = λ wide.
    let v = c.args.variable in
    let lits = c.args.lits.now.items in
    let some : list_any (occurs v) lits ≡ true = ap (list_any (occurs v)) (sym c.as_slice.ensures.value) ∙ sym c.occurs_in.ensures.is ∙ c.if-not-occurs_in.false in
    let none : equation_in v lits ≡ None = ap (equation_in v) (sym c.as_slice-2.ensures.value) ∙ (rw c.in-None.is at c.in_ok-equation.ensures.none) refl in
    let low : list_any (is_bound true v) lits ≡ true = ap (list_any (is_bound true v)) (sym c.as_slice-in-None.ensures.value) ∙ sym c.has_bound.ensures ∙ c.if-has_bound.true in
    removed_below c.args.model.now v lits some none low ∙ c.by_bounds.ensures.wide wide

pub returns-then-has_bound-2-clause-made : goal.returns-then-has_bound-2-clause-made
returns-then-has_bound-2-clause-made c =
    let v = c.args.variable in
    let lits = c.args.lits.now.items in
    let some : list_any (occurs v) lits ≡ true = ap (list_any (occurs v)) (sym c.as_slice.ensures.value) ∙ sym c.occurs_in.ensures.is ∙ c.if-not-occurs_in.false in
    let none : equation_in v lits ≡ None = ap (equation_in v) (sym c.as_slice-2.ensures.value) ∙ (rw c.in-None.is at c.in_ok-equation.ensures.none) refl in
    let low : list_any (is_bound true v) lits ≡ false = ap (list_any (is_bound true v)) (sym c.as_slice-in-None.ensures.value) ∙ sym c.has_bound.ensures ∙ c.if-has_bound.false in
    let high : list_any (is_bound false v) lits ≡ true = ap (list_any (is_bound false v)) (sym c.as_slice-in-None-2.ensures.value) ∙ sym c.has_bound-in-None.ensures ∙ c.if-has_bound-2.true in
    subst (λ (x : Option (List Lit)). OnOk c.by_bounds-then-has_bound-2.result (x ≡ Some c.by_bounds-then-has_bound-2.new.lits.items)) (sym (removed_above c.args.model.now v lits some none low high)) c.by_bounds-then-has_bound-2.ensures.made

pub returns-then-has_bound-2-clause-wide : goal.returns-then-has_bound-2-clause-wide
returns-then-has_bound-2-clause-wide c = λ wide.
    let v = c.args.variable in
    let lits = c.args.lits.now.items in
    let some : list_any (occurs v) lits ≡ true = ap (list_any (occurs v)) (sym c.as_slice.ensures.value) ∙ sym c.occurs_in.ensures.is ∙ c.if-not-occurs_in.false in
    let none : equation_in v lits ≡ None = ap (equation_in v) (sym c.as_slice-2.ensures.value) ∙ (rw c.in-None.is at c.in_ok-equation.ensures.none) refl in
    let low : list_any (is_bound true v) lits ≡ false = ap (list_any (is_bound true v)) (sym c.as_slice-in-None.ensures.value) ∙ sym c.has_bound.ensures ∙ c.if-has_bound.false in
    let high : list_any (is_bound false v) lits ≡ true = ap (list_any (is_bound false v)) (sym c.as_slice-in-None-2.ensures.value) ∙ sym c.has_bound-in-None.ensures ∙ c.if-has_bound-2.true in
    removed_above c.args.model.now v lits some none low high ∙ c.by_bounds-then-has_bound-2.ensures.wide wide

pub returns-else-has_bound-2-clause-made : goal.returns-else-has_bound-2-clause-made
returns-else-has_bound-2-clause-made c =
    let v = c.args.variable in
    let lits = c.args.lits.now.items in
    let some : list_any (occurs v) lits ≡ true = ap (list_any (occurs v)) (sym c.as_slice.ensures.value) ∙ sym c.occurs_in.ensures.is ∙ c.if-not-occurs_in.false in
    let none : equation_in v lits ≡ None = ap (equation_in v) (sym c.as_slice-2.ensures.value) ∙ (rw c.in-None.is at c.in_ok-equation.ensures.none) refl in
    let low : list_any (is_bound true v) lits ≡ false = ap (list_any (is_bound true v)) (sym c.as_slice-in-None.ensures.value) ∙ sym c.has_bound.ensures ∙ c.if-has_bound.false in
    let high : list_any (is_bound false v) lits ≡ false = ap (list_any (is_bound false v)) (sym c.as_slice-in-None-2.ensures.value) ∙ sym c.has_bound-in-None.ensures ∙ c.if-has_bound-2.false in
    subst (λ (x : Option (List Lit)). OnOk c.by_rest.result (x ≡ Some c.by_rest.new.lits.items)) (sym (removed_rest c.args.model.now v lits some none low high)) c.by_rest.ensures.made

pub returns-else-has_bound-2-clause-wide : goal.returns-else-has_bound-2-clause-wide
returns-else-has_bound-2-clause-wide c = λ wide.
    let v = c.args.variable in
    let lits = c.args.lits.now.items in
    let some : list_any (occurs v) lits ≡ true = ap (list_any (occurs v)) (sym c.as_slice.ensures.value) ∙ sym c.occurs_in.ensures.is ∙ c.if-not-occurs_in.false in
    let none : equation_in v lits ≡ None = ap (equation_in v) (sym c.as_slice-2.ensures.value) ∙ (rw c.in-None.is at c.in_ok-equation.ensures.none) refl in
    let low : list_any (is_bound true v) lits ≡ false = ap (list_any (is_bound true v)) (sym c.as_slice-in-None.ensures.value) ∙ sym c.has_bound.ensures ∙ c.if-has_bound.false in
    let high : list_any (is_bound false v) lits ≡ false = ap (list_any (is_bound false v)) (sym c.as_slice-in-None-2.ensures.value) ∙ sym c.has_bound-in-None.ensures ∙ c.if-has_bound-2.false in
    removed_rest c.args.model.now v lits some none low high ∙ c.by_rest.ensures.wide wide
