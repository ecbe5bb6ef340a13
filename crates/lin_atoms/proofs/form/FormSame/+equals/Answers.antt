use Rattle.std.proofs.Common.{◌≡◌, List, ap, sym, ◌∙◌, refl, true, false}
use Rattle.lin_atoms.specs.declared.lit.Lit.{Lit}
use Rattle.lin_atoms.specs.declared.form.Form.{Form}
use Rattle.lin_atoms.specs.declared.form.Form.TheOpen.{Form-F}
use Rattle.lin_atoms.specs.declared.form.Form.TheVariants.{Lit as Literal}
use Rattle.lin_atoms.specs.declared.form.Form.TheViews.{And, Or, out-Form, outs-And, outs-Or}
use Rattle.lin_atoms.proofs.form.FormSame.+equals.Goals as goal

no : false ≡ true → ⊥
no h = cc

open-And : (a b : List Form) → ◌≡◌ {A = Form-F Form} (Form-F.And a) (Form-F.And b) → a ≡ b
open-And a b e = cc

open-Or : (a b : List Form) → ◌≡◌ {A = Form-F Form} (Form-F.Or a) (Form-F.Or b) → a ≡ b
open-Or a b e = cc

same-And : (a b : List Form) → And a ≡ And b → a ≡ b
same-And a b e = open-And a b (sym (outs-And a) ∙ ap out-Form e ∙ outs-And b)

same-Or : (a b : List Form) → Or a ≡ Or b → a ≡ b
same-Or a b e = open-Or a b (sym (outs-Or a) ∙ ap out-Form e ∙ outs-Or b)

same-Lit : (a b : Lit) → Literal a ≡ Literal b → a ≡ b
same-Lit a b e = cc

pub returns-in-Or-Or : goal.returns-in-Or-Or
returns-in-Or-Or n c =
    let v = c.in-Or-Or in
    let told = c.equals-in-Or-Or.ensures in
    (λ t. v.is-0 ∙ ap Or (told.0 t) ∙ sym v.is-1, λ e. told.1 (same-Or v.a v.b (sym v.is-0 ∙ e ∙ v.is-1)))

pub returns-in-And-And : goal.returns-in-And-And
returns-in-And-And n c =
    let v = c.in-And-And in
    let told = c.equals-in-And-And.ensures in
    (λ t. v.is-0 ∙ ap And (told.0 t) ∙ sym v.is-1, λ e. told.1 (same-And v.a v.b (sym v.is-0 ∙ e ∙ v.is-1)))

pub returns-in-Lit-Lit : goal.returns-in-Lit-Lit
returns-in-Lit-Lit n c =
    let v = c.in-Lit-Lit in
    let told = c.equals.ensures in
    (λ t. v.is-0 ∙ ap Literal (told.0 t) ∙ sym v.is-1, λ e. told.1 (same-Lit v.a v.b (sym v.is-0 ∙ e ∙ v.is-1)))

pub returns-in_default : goal.returns-in_default
returns-in_default n c = (λ t. absurd (no t), λ e. absurd (c.in_default.not-True-1 (sym e ∙ c.in_default.is-0)))

pub returns-in_default-2 : goal.returns-in_default-2
returns-in_default-2 n c = (λ t. absurd (no t), λ e. absurd (c.in_default.not-False-1 (sym e ∙ c.in_default.is-0)))

pub returns-in_default-3 : goal.returns-in_default-3
returns-in_default-3 n c = (λ t. absurd (no t), λ e. absurd (c.in_default.not-Lit-1 c.in_default.field-0-0 (sym e ∙ c.in_default.is-0)))

pub returns-in_default-4 : goal.returns-in_default-4
returns-in_default-4 n c = (λ t. absurd (no t), λ e. absurd (c.in_default.not-And-1 c.in_default.field-0-0 (sym e ∙ c.in_default.is-0)))

pub returns-in_default-5 : goal.returns-in_default-5
returns-in_default-5 n c = (λ t. absurd (no t), λ e. absurd (c.in_default.not-Or-1 c.in_default.field-0-0 (sym e ∙ c.in_default.is-0)))

pub returns-in-False-False : goal.returns-in-False-False
returns-in-False-False n c = (λ _. c.in-False-False.is-0 ∙ sym c.in-False-False.is-1, λ _. refl)

pub returns-in-True-True : goal.returns-in-True-True
returns-in-True-True n c = (λ _. c.in-True-True.is-0 ∙ sym c.in-True-True.is-1, λ _. refl)
