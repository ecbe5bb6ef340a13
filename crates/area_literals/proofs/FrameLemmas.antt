-- The lemmas of a frame on an atom.
use Rattle.std.proofs.Common.{◌≡◌, ℕ, ◌≤◌, List, [], ◌∷◌, ◌++◌, length, Bool, true, false, ◌||◌, not, refl, ap, sym, ◌∙◌, arith}
use Rattle.std.specs.Prelude.{ℤ, nat_le, ◌==◌}
use Rattle.std.proofs.lemmas.Bool.Decides.{nat_tests}
use mathlib.Core.Bool.{true≢false}
use Rattle.lin_atoms.specs.Truth.{truth}
use Rattle.lin_atoms.specs.declared.form.Form.{Form}
use Rattle.lin_atoms.specs.declared.lit.Lit.{Lit}
use Rattle.clause_form.specs.declared.atom.Atom.{Atom}
use Rattle.cube_forms.specs.Cubes.{cube_is_below, lemma_at}
use Rattle.cube_forms.proofs.Public.{truth-lemma_at}
use Rattle.book_rules.specs.Areas.{cover, stands_in}
use Rattle.book_rules.specs.Frames.{Framed}
use Rattle.cube_rules.proofs.Public.{both_true, from_both}
use Rattle.area_literals.specs.Areas.{accepts_on, all_known_on, fits_on, is_known_on, is_on}
use Rattle.area_literals.specs.machinery.Growing.{IsGathered, IsLemmaGathered, stands_on}
use Rattle.area_literals.proofs.CoverLemmas.{covers-more}
use Rattle.area_literals.proofs.GrowLemmas.{grows-so}

implied : (a b : Bool) → (not a || b) ≡ true → a ≡ true → b ≡ true
implied true b h is = h
implied false b h is = absurd (true≢false (sym is))

implies : (a b : Bool) → b ≡ true → (not a || b) ≡ true
implies true b h = h
implies false b h = refl

more-implied : (a b c : Bool) → (b ≡ true → c ≡ true) → (not a || b) ≡ true → (not a || c) ≡ true
more-implied true b c f h = f h
more-implied false b c f h = refl

pub on-it : (k : ℕ) (atom : Atom) (e : Framed) → k ≤ e.level → e.lemma.pred ≡ atom.pred → is_on k atom e ≡ true
on-it k atom e high same =
    let level : nat_le k e.level ≡ true = grind (arith, nat_tests, high) in
    let pred : (e.lemma.pred == atom.pred) ≡ true = grind (arith, nat_tests, same) in
    from_both (nat_le k e.level) _ level pred

-- it is true at the point
pub lemma-true : (k : ℕ) (point : List ℤ) (atom : Atom) (e : Framed) (form : Form) → is_on k atom e ≡ true → fits_on k atom e ≡ true → accepts_on k point atom e ≡ true → form ≡ lemma_at atom.args e.lemma.cube → truth point form ≡ true
lemma-true k point atom e form on room holds is =
    let places = (both_true (cube_is_below (length atom.args) e.lemma.cube) _ (implied (is_on k atom e) _ room on)).0 in
    ap (truth point) is ∙ truth-lemma_at point atom.args e.lemma.cube places ∙ implied (is_on k atom e) _ holds on

-- its form was gathered
pub lemma-gathered : (k : ℕ) (point : List ℤ) (atom : Atom) (e : Framed) (form : Form) (old new : List Lit) → is_on k atom e ≡ true → form ≡ lemma_at atom.args e.lemma.cube → IsGathered point form old new → IsLemmaGathered point k atom e old new
lemma-gathered k point atom e form old new on is one =
    grows-so point (λ lit. stands_in lit form) (stands_on k atom e) (λ ls. cover ls form) (is_known_on k atom e) old new
    (λ lit h. from_both (is_on k atom e) _ on (ap (stands_in lit) (sym is) ∙ h)) (λ h. implies (is_on k atom e) _ (ap (cover new) (sym is) ∙ h)) one

-- what is known stays so
pub known-more : (k : ℕ) (atom : Atom) (e : Framed) (lits more : List Lit) → is_known_on k atom e lits ≡ true → is_known_on k atom e (lits ++ more) ≡ true
known-more k atom e lits more = more-implied (is_on k atom e) (cover lits (lemma_at atom.args e.lemma.cube)) (cover (lits ++ more) (lemma_at atom.args e.lemma.cube)) (covers-more lits more (lemma_at atom.args e.lemma.cube))

pub all-known-more : (k : ℕ) (es : List Framed) (atom : Atom) (lits more : List Lit) → all_known_on k es atom lits ≡ true → all_known_on k es atom (lits ++ more) ≡ true
all-known-more k [] atom lits more h = refl
all-known-more k (e ∷ es) atom lits more h = let both = both_true (is_known_on k atom e lits) _ h in from_both (is_known_on k atom e (lits ++ more)) _ (known-more k atom e lits more both.0) (all-known-more k es atom lits more both.1)
