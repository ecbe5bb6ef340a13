-- Formulas and lists of them that pass a test of literals.
use Rattle.std.proofs.Common.{◌≡◌, ℕ, List, [], ◌∷◌, ◌++◌, Bool, true, false, ◌&&◌, refl, ap, ◌∙◌}
use Rattle.std.proofs.Math.Path.{fun_ext}
use Rattle.std.specs.List.{list_all}
use Rattle.term_tree.proofs.Public.{both_true}
use Rattle.lin_atoms.specs.declared.lit.Lit.{Lit as Literal}
use Rattle.lin_atoms.specs.declared.lit.Lit.TheVariants.{Le, Eq, Div, NDiv}
use Rattle.lin_atoms.specs.declared.form.Form.{Form}
use Rattle.lin_atoms.specs.declared.form.Form.TheOpen.{Form-F}
use Rattle.lin_atoms.specs.declared.form.Form.TheFolds.{fold-Form}
use Rattle.lin_atoms.specs.Truth.{is_below, lit_is_below}
use Rattle.lia_node.specs.Known.{has_short_constant}
use Rattle.lia_search.specs.Decides.{has_short_multiples, short_step}
use Rattle.clause_form.specs.System.{has_short_in_guard}
use Rattle.clause_normal.specs.Normal.{conjunction}
use Rattle.clause_normal.proofs.PassLemmas.{below_passes, joined_pass, passes, passes-True, passes_step}

pub both_hold : (a b : Bool) → a ≡ true → b ≡ true → (a && b) ≡ true
both_hold true b x y = y
both_hold false b x y = absurd (cc)

pub append_pass : (t : Literal → Bool) (xs ys : List Form) → list_all (passes t) xs ≡ true → list_all (passes t) ys ≡ true → list_all (passes t) (xs ++ ys) ≡ true
append_pass t [] ys a b = b
append_pass t (x ∷ xs) ys a b =
    let rest = both_true (passes t x) (list_all (passes t) xs) a in both_hold (passes t x) (list_all (passes t) (xs ++ ys)) rest.0 (append_pass t xs ys rest.1 b)

pub conjunction_pass : (t : Literal → Bool) (forms : List Form) → list_all (passes t) forms ≡ true → passes t (conjunction forms) ≡ true
conjunction_pass t [] h = passes-True t
conjunction_pass t (form ∷ []) h = joined_pass t true (form ∷ []) h
conjunction_pass t (form ∷ next ∷ forms) h = joined_pass t true (form ∷ next ∷ forms) h

-- the tests that the search asks for

pub is_below_by : (n : ℕ) (form : Form) → passes (lit_is_below n) form ≡ true → is_below n form ≡ true
is_below_by n form h = below_passes n form ∙ h

same_constant : (lit : Literal) → has_short_constant lit ≡ has_short_in_guard lit
same_constant (Le lin) = refl
same_constant (Eq lin) = refl
same_constant (Div d lin) = refl
same_constant (NDiv d lin) = refl

same_step : (x : Form-F Bool) → short_step x ≡ passes_step has_short_in_guard x
same_step Form-F.True = refl
same_step Form-F.False = refl
same_step (Form-F.Lit lit) = same_constant lit
same_step (Form-F.And parts) = refl
same_step (Form-F.Or parts) = refl

pub is_short_by : (form : Form) → passes has_short_in_guard form ≡ true → has_short_multiples form ≡ true
is_short_by form h = ap (λ (step : Form-F Bool → Bool). fold-Form Bool step form) (fun_ext same_step) ∙ h
