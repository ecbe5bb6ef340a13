-- What holds of every literal of a form holds of those of the flattened form.
use Rattle.std.proofs.Common.{◌≡◌, ℕ, List, [], ◌∷◌, map, refl, ap, sym, ◌∙◌, subst, true, Bool, ◌&&◌}
use Rattle.std.specs.Prelude.{pos}
use Rattle.std.specs.List.{flat_map, list_all}
use Rattle.std.proofs.lemmas.Bool.{and_from}
use Rattle.std.proofs.lemmas.List.Folds.{list_all-append}
use denote.Hole.Carrier.{roll}
use Rattle.lin_atoms.specs.Linear.{of_constant}
use Rattle.lin_atoms.specs.Truth.{below_step, is_below, lit_is_below}
use Rattle.lin_atoms.specs.declared.lit.Lit.{Lit}
use Rattle.lin_atoms.specs.declared.lit.Lit.TheVariants.{Le}
use Rattle.lin_atoms.specs.declared.form.Form.{Form, map-Form}
use Rattle.lin_atoms.specs.declared.form.Form.TheOpen.{Form-F}
use Rattle.lin_atoms.specs.declared.form.Form.TheViews.{And, Or, roll-Form}
use Rattle.lin_atoms.specs.declared.form.Form.TheVariants.{rolls-And, rolls-Or}
use Rattle.lin_atoms.specs.declared.form.Form.TheFolds.{fold-roll-Form, ind-Form}
use Rattle.lin_atoms.proofs.Public.{both_true, is_below-And, is_below-Or}
use Rattle.refutation_trees.specs.Flatten.{disjunctions, literals, literals_step}
use Rattle.refutation_trees.proofs.FlattenLemmas.{disjunctions-And, disjunctions-Or, literals-And}
use Rattle.lia_node.specs.Known.{has_short_constant}
use Rattle.lia_stack.specs.Short.{has_short_multiples, short_step}

-- a test of forms that looks at every literal
pub record LooksAt (p : Lit → Bool) (q : Form → Bool) : Type 0 where
  pub falsehood : p (Le (of_constant (pos 1))) ≡ true
  pub lit : (l : Lit) → q (roll-Form (Form-F.Lit l)) ≡ true → p l ≡ true
  pub and : (parts : List Form) → q (And parts) ≡ true → list_all q parts ≡ true
  pub or : (parts : List Form) → q (Or parts) ≡ true → list_all q parts ≡ true

abbrev Passes : (Lit → Bool) → (Form → Bool) → Form → Type 0
Passes p q form = q form ≡ true → (list_all p (literals form) ≡ true) × (list_all (list_all q) (disjunctions form) ≡ true)

parts-pass : (p : Lit → Bool) (q : Form → Bool) (ys : List ((form : Form) × Passes p q form)) → list_all q (map (λ y. y.0) ys) ≡ true
    → (list_all p (flat_map literals (map (λ y. y.0) ys)) ≡ true) × (list_all (list_all q) (flat_map disjunctions (map (λ y. y.0) ys)) ≡ true)
parts-pass p q [] h = (refl, refl)
parts-pass p q (y ∷ ys) h =
    let both = both_true (q y.0) _ h in
    let here = y.1 both.0 in
    let rest = parts-pass p q ys both.1 in (
      list_all-append p (literals y.0) (flat_map literals (map (λ y. y.0) ys)) ∙ and_from _ _ here.0 rest.0,
      list_all-append (list_all q) (disjunctions y.0) (flat_map disjunctions (map (λ y. y.0) ys)) ∙ and_from _ _ here.1 rest.1,
    )

node-passes : (p : Lit → Bool) (q : Form → Bool) → LooksAt p q → (y : Form-F ((form : Form) × Passes p q form)) → Passes p q (roll-Form (map-Form ((form : Form) × Passes p q form) Form (λ e. e.0) y))
unfolding roll-Form roll
node-passes p q looks Form-F.True h = (ap (list_all p) (fold-roll-Form (List Lit) literals_step Form-F.True), refl)
node-passes p q looks Form-F.False h = (ap (list_all p) (fold-roll-Form (List Lit) literals_step Form-F.False) ∙ and_from _ _ looks.falsehood refl, refl)
node-passes p q looks (Form-F.Lit l) h = (ap (list_all p) (fold-roll-Form (List Lit) literals_step (Form-F.Lit l)) ∙ and_from _ _ (looks.lit l h) refl, refl)
node-passes p q looks (Form-F.And ys) h =
    let parts = map (λ (y : (form : Form) × Passes p q form). y.0) ys in
    let known : q (And parts) ≡ true = ap q (sym (rolls-And parts)) ∙ h in
    let both = parts-pass p q ys (looks.and parts known) in (
      ap (list_all p) (ap literals (rolls-And parts) ∙ literals-And parts) ∙ both.0,
      ap (list_all (list_all q)) (ap disjunctions (rolls-And parts) ∙ disjunctions-And parts) ∙ both.1,
    )
node-passes p q looks (Form-F.Or ys) h =
    let parts = map (λ (y : (form : Form) × Passes p q form). y.0) ys in
    let known : q (Or parts) ≡ true = ap q (sym (rolls-Or parts)) ∙ h in (
      ap (list_all p) (fold-roll-Form (List Lit) literals_step (Form-F.Or parts)),
      ap (list_all (list_all q)) (ap disjunctions (rolls-Or parts) ∙ disjunctions-Or parts) ∙ and_from _ _ (looks.or parts known) refl,
    )

pub flat-passes : (p : Lit → Bool) (q : Form → Bool) → LooksAt p q → (form : Form) → Passes p q form
flat-passes p q looks = ind-Form (Passes p q) (λ x y is. subst (λ z. Passes p q (roll-Form z)) is (node-passes p q looks y))

-- every variable is below a number
pub below-looks : (n : ℕ) → LooksAt (lit_is_below n) (is_below n)
below-looks n = record { falsehood = refl; lit = λ l h. sym (fold-roll-Form Bool (below_step n) (Form-F.Lit l)) ∙ h; and = λ parts h. sym (is_below-And n parts) ∙ h; or = λ parts h. sym (is_below-Or n parts) ∙ h }

all-map : (parts : List Form) → list_all (λ b. b) (map has_short_multiples parts) ≡ list_all has_short_multiples parts
all-map [] = refl
all-map (part ∷ parts) = ap (λ b. has_short_multiples part && b) (all-map parts)

pub short-And : (parts : List Form) → has_short_multiples (And parts) ≡ list_all has_short_multiples parts
short-And parts = ap has_short_multiples (sym (rolls-And parts)) ∙ fold-roll-Form Bool short_step _ ∙ all-map parts

pub short-Or : (parts : List Form) → has_short_multiples (Or parts) ≡ list_all has_short_multiples parts
short-Or parts = ap has_short_multiples (sym (rolls-Or parts)) ∙ fold-roll-Form Bool short_step _ ∙ all-map parts

-- every divisibility has a short constant
pub short-looks : LooksAt has_short_constant has_short_multiples
short-looks = record { falsehood = refl; lit = λ l h. sym (fold-roll-Form Bool short_step (Form-F.Lit l)) ∙ h; and = λ parts h. sym (short-And parts) ∙ h; or = λ parts h. sym (short-Or parts) ∙ h }
