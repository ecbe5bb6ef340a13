-- Cubes at arguments, literal by literal.
use Rattle.std.proofs.Common.{◌≡◌, ℕ, suc, zero, List, [], ◌∷◌, ◌++◌, map, refl, ap, sym, ◌∙◌, arith, ◌<◌, ◌+◌, length, take, drop, get_or, ◌&&◌, true, false}
use Rattle.std.specs.List.{flat_map}
use Rattle.std.proofs.lemmas.List.{drop_more, map-append, take_more}
use Rattle.std.proofs.lemmas.Grind.{flat_map-append}
use Rattle.base.specs.Widths.{is_short}
use Rattle.lin_atoms.specs.Denial.{denial, linear_of, lit_fits}
use Rattle.lin_atoms.specs.Linear.{are_short}
use Rattle.lin_atoms.specs.declared.lit.Lit.{Lit}
use Rattle.lin_atoms.specs.declared.lit.Lit.TheVariants.{Le, Eq, Div, NDiv}
use Rattle.lin_atoms.specs.declared.form.Form.TheVariants.{Lit as Literal}
use Rattle.lin_atoms.proofs.Public.{both_true}
use Rattle.cube_forms.specs.Cubes.{cube_at, cube_is_short, denials, has_room, lit_at, lit_is_short}

-- the constant stays
pub constant_at : (args : List ℕ) (lit : Lit) → (linear_of (lit_at args lit)).constant ≡ (linear_of lit).constant
constant_at args (Le lin) = refl
constant_at args (Eq lin) = refl
constant_at args (Div d lin) = refl
constant_at args (NDiv d lin) = refl

-- each literal has a short constant
pub short_at : (lits : List Lit) (i : ℕ) (d : Lit) → i < length lits → cube_is_short lits ≡ true → is_short (linear_of (get_or lits i d)).constant ≡ true
short_at [] i d h is = absurd (omega arith)
short_at (l ∷ ls) zero d h is = (both_true (are_short (linear_of l).terms) _ (both_true (lit_is_short l) _ is).0).1
short_at (l ∷ ls) (suc i) d h is = short_at ls i d (omega arith) (both_true (lit_is_short l) _ is).1

-- one more literal is denied
pub denials-more : (args : List ℕ) (lits : List Lit) (i : ℕ) (d : Lit) → i < length lits
    → map Literal (denials args (take (i + 1) lits)) ≡ map Literal (denials args (take i lits)) ++ map Literal (denial (lit_at args (get_or lits i d)))
denials-more args lits i d h =
    let lit = lit_at args (get_or lits i d) in
    let parts : cube_at args (take (i + 1) lits) ≡ cube_at args (take i lits) ++ lit ∷ [] = ap (cube_at args) (take_more lits i d h) ∙ map-append (lit_at args) (take i lits) (get_or lits i d ∷ []) in
    let denied : denials args (take (i + 1) lits) ≡ denials args (take i lits) ++ (denial lit ++ []) = ap (flat_map denial) parts ∙ flat_map-append denial (cube_at args (take i lits)) (lit ∷ []) in
    let last : denials args (take (i + 1) lits) ≡ denials args (take i lits) ++ denial lit = denied ∙ ap (λ xs. denials args (take i lits) ++ xs) (append-none (denial lit)) in
    ap (map Literal) last ∙ map-append Literal (denials args (take i lits)) (denial lit)
  where
    append-none : (xs : List Lit) → xs ++ [] ≡ xs
    append-none [] = refl
    append-none (x ∷ xs) = ap (λ ys. x ∷ ys) (append-none xs)

-- the room of one more literal
pub room-drop : (args : List ℕ) (lits : List Lit) (i : ℕ) (d : Lit) → i < length lits → has_room args (drop i lits) ≡ (lit_fits (lit_at args (get_or lits i d)) && has_room args (drop (i + 1) lits))
room-drop args lits i d h = ap (has_room args) (drop_more lits i d h)

pub room-next : (args : List ℕ) (lits : List Lit) (i : ℕ) (d : Lit) → i < length lits → has_room args (drop i lits) ≡ has_room args lits → lit_fits (lit_at args (get_or lits i d)) ≡ true
    → has_room args (drop (i + 1) lits) ≡ has_room args lits
room-next args lits i d h was fits = sym (room-drop args lits i d h ∙ ap (λ b. b && has_room args (drop (i + 1) lits)) fits) ∙ was

pub room-none : (args : List ℕ) (lits : List Lit) (i : ℕ) (d : Lit) → i < length lits → has_room args (drop i lits) ≡ has_room args lits → lit_fits (lit_at args (get_or lits i d)) ≡ false → has_room args lits ≡ false
room-none args lits i d h was wide = sym was ∙ room-drop args lits i d h ∙ ap (λ b. b && has_room args (drop (i + 1) lits)) wide
