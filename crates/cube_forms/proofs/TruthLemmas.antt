-- The truth of a cube and of a lemma at arguments.
use Rattle.std.proofs.Common.{◌≡◌, ℕ, List, [], ◌∷◌, map, refl, ap, ◌∙◌, length, ◌&&◌, ◌||◌, true, false, Bool}
use Rattle.std.specs.Prelude.{ℤ, pos, int_le, nat_abs, not, ◌==◌}
use Rattle.std.specs.List.{flat_map, list_all, list_any}
use Rattle.std.proofs.lemmas.List.Folds.{list_any-append}
use denote.Hole.Carrier.{roll}
use Rattle.lin_atoms.specs.Multiples.{is_multiple}
use Rattle.lin_atoms.specs.Denial.{denial}
use Rattle.lin_atoms.specs.Truth.{lit_is_below, lit_truth, truth, truth_step}
use Rattle.lin_atoms.specs.declared.lit.Lit.{Lit}
use Rattle.lin_atoms.specs.declared.lit.Lit.TheVariants.{Le, Eq, Div, NDiv}
use Rattle.lin_atoms.specs.declared.form.Form.{Form}
use Rattle.lin_atoms.specs.declared.form.Form.TheOpen.{Form-F}
use Rattle.lin_atoms.specs.declared.form.Form.TheViews.{roll-Form}
use Rattle.lin_atoms.specs.declared.form.Form.TheVariants.{False, Lit as Literal}
use Rattle.lin_atoms.specs.declared.form.Form.TheFolds.{fold-roll-Form}
use Rattle.lin_atoms.proofs.Public.{both_true, denial_is, truth-Or, value_at-named}
use Rattle.cube_forms.specs.Cubes.{cube_at, cube_holds, cube_is_below, denials, lemma_at, lit_at, or_of, tuple_at}

pub truth-Literal : (point : List ℤ) (lit : Lit) → truth point (Literal lit) ≡ lit_truth point lit
unfolding roll-Form roll
truth-Literal point lit = fold-roll-Form Bool (truth_step point) (Form-F.Lit lit)

pub truth-False : (point : List ℤ) → truth point False ≡ false
unfolding roll-Form roll
truth-False point = fold-roll-Form Bool (truth_step point) Form-F.False

or_false : (b : Bool) → b ≡ (b || false)
or_false true = refl
or_false false = refl

pub truth-or_of : (point : List ℤ) (parts : List Form) → truth point (or_of parts) ≡ list_any (truth point) parts
truth-or_of point [] = truth-False point
truth-or_of point (part ∷ []) = or_false (truth point part)
truth-or_of point (part ∷ next ∷ parts) = truth-Or point (part ∷ next ∷ parts)

any_literal : (point : List ℤ) (lits : List Lit) → list_any (truth point) (map Literal lits) ≡ list_any (lit_truth point) lits
any_literal point [] = refl
any_literal point (l ∷ ls) = ap (λ b. b || list_any (truth point) (map Literal ls)) (truth-Literal point l) ∙ ap (λ b. lit_truth point l || b) (any_literal point ls)

not_both : (a b : Bool) → (not a || not b) ≡ not (a && b)
not_both true b = refl
not_both false b = refl

any_denial : (point : List ℤ) (lits : List Lit) → list_any (lit_truth point) (flat_map denial lits) ≡ not (list_all (lit_truth point) lits)
any_denial point [] = refl
any_denial point (l ∷ ls) =
    list_any-append (lit_truth point) (denial l) (flat_map denial ls)
    ∙ ap (λ b. b || list_any (lit_truth point) (flat_map denial ls)) (denial_is point l)
    ∙ ap (λ b. not (lit_truth point l) || b) (any_denial point ls)
    ∙ not_both (lit_truth point l) (list_all (lit_truth point) ls)

truth-lit_at : (point : List ℤ) (args : List ℕ) (lit : Lit) → lit_is_below (length args) lit ≡ true → lit_truth point (lit_at args lit) ≡ lit_truth (tuple_at point args) lit
truth-lit_at point args (Le lin) h = ap (λ z. int_le z (pos 0)) (value_at-named point args lin h)
truth-lit_at point args (Eq lin) h = ap (λ z. nat_abs z == 0) (value_at-named point args lin h)
truth-lit_at point args (Div d lin) h = ap (is_multiple (pos d)) (value_at-named point args lin h)
truth-lit_at point args (NDiv d lin) h = ap (λ z. not (is_multiple (pos d) z)) (value_at-named point args lin h)

pub truth-cube_at : (point : List ℤ) (args : List ℕ) (cube : List Lit) → cube_is_below (length args) cube ≡ true → list_all (lit_truth point) (cube_at args cube) ≡ cube_holds (tuple_at point args) cube
truth-cube_at point args [] h = refl
truth-cube_at point args (l ∷ ls) h =
    let parts = both_true (lit_is_below (length args) l) _ h in
    ap (λ b. b && list_all (lit_truth point) (cube_at args ls)) (truth-lit_at point args l parts.0) ∙ ap (λ b. lit_truth (tuple_at point args) l && b) (truth-cube_at point args ls parts.1)

pub truth-lemma_at : (point : List ℤ) (args : List ℕ) (cube : List Lit) → cube_is_below (length args) cube ≡ true → truth point (lemma_at args cube) ≡ not (cube_holds (tuple_at point args) cube)
truth-lemma_at point args cube h =
    truth-or_of point (map Literal (denials args cube)) ∙ any_literal point (denials args cube) ∙ any_denial point (cube_at args cube) ∙ ap not (truth-cube_at point args cube h)
