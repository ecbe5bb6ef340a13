-- Thin cubes have room at every list of up to 256 arguments.
use Rattle.std.proofs.Common.{◌≡◌, ℕ, suc, List, [], ◌∷◌, map, refl, ap, ◌∙◌, arith, ◌<◌, ◌≤◌, ◌+◌, ◌*◌, ◌^◌, length, ◌&&◌, true, false, Bool}
use Rattle.std.specs.Prelude.{ℤ, nat_abs, nat_le, nat_lt}
use Rattle.std.specs.List.{list_all}
use Rattle.std.proofs.lemmas.Bool.{leb-true, ltb-true, lt-ltb}
use Rattle.base.specs.Widths.{is_long, is_short}
use Rattle.lin_atoms.specs.Algebra.{are_within, collected, name_in}
use Rattle.lin_atoms.specs.Denial.{lit_fits}
use Rattle.lin_atoms.specs.Linear.{Linear, are_ordered, are_short, is_linear, fits, lin_is_below}
use Rattle.lin_atoms.specs.Truth.{lit_is_below}
use Rattle.lin_atoms.specs.declared.lit.Lit.{Lit}
use Rattle.lin_atoms.specs.declared.lit.Lit.TheVariants.{Le, Eq, Div, NDiv}
use Rattle.lin_atoms.proofs.Public.{both_true, within-collected}
use Rattle.cube_forms.specs.Cubes.{cube_is_below, cube_is_thin, has_room, lit_at, lit_is_thin}

both : (a b : Bool) → a ≡ true → b ≡ true → (a && b) ≡ true
both true b h is = is
both false b h is = h

-- terms whose variables rise below a number are not more than the number
few_terms : (n from : ℕ) (ts : List (ℕ × ℤ)) → from ≤ n → are_ordered from ts ≡ true → list_all (λ t. nat_lt t.0 n) ts ≡ true → from + length ts ≤ n
few_terms n from [] h is below = omega arith
few_terms n from (t ∷ ts) h is below =
    let parts = both_true (nat_le from t.0) _ is in
    let under = both_true (nat_lt t.0 n) _ below in
    let above : from ≤ t.0 = leb-true _ _ parts.0 in
    let here : t.0 < n = ltb-true _ _ under.0 in
    let rest = few_terms n (t.0 + 1) ts (omega arith) (both_true (nat_lt 0 (nat_abs t.1)) _ parts.1).1 under.1 in
    omega arith

within-named : (m : ℕ) (f : ℕ → ℕ) (ts : List (ℕ × ℤ)) → are_within m (map (λ t. (f t.0, t.1)) ts) ≡ are_within m ts
within-named m f [] = refl
within-named m f (t ∷ ts) = ap (λ b. nat_le (nat_abs t.1) m && b) (within-named m f ts)

length-named : (f : ℕ → ℕ) (ts : List (ℕ × ℤ)) → length {A = ℕ × ℤ} (map (λ t. (f t.0, t.1)) ts) ≡ length ts
length-named f [] = refl
length-named f (t ∷ ts) = ap (λ n. suc n) (length-named f ts)

within-short : (m : ℕ) (ts : List (ℕ × ℤ)) → m < 2 ^ 63 → are_within m ts ≡ true → are_short ts ≡ true
within-short m [] h is = refl
within-short m (t ∷ ts) h is =
    let parts = both_true (nat_le (nat_abs t.1) m) _ is in
    let le : nat_abs t.1 ≤ m = leb-true _ _ parts.0 in
    both (is_short t.1) (are_short ts) (lt-ltb _ _ (omega arith)) (within-short m ts h parts.1)

lin-room : (args : List ℕ) (lin : Linear) → length args ≤ 256 → is_linear lin ≡ true → lin_is_below (length args) lin ≡ true → are_within (2 ^ 54) lin.terms ≡ true
    → fits (record { terms = collected (map (λ t. (name_in args t.0, t.1)) lin.terms); constant = lin.constant }) ≡ true
lin-room args lin few legal below thin =
    let parts = both_true (are_ordered 0 lin.terms) _ legal in
    let long = (both_true (are_short lin.terms) (is_long lin.constant) parts.1).1 in
    let terms : List (ℕ × ℤ) = map (λ (t : ℕ × ℤ). (name_in args t.0, t.1)) lin.terms in
    let same : length terms ≡ length lin.terms = length-named (name_in args) lin.terms in
    let most : 0 + length lin.terms ≤ length args = few_terms (length args) 0 lin.terms (omega arith) parts.0 below in
    let count : length terms ≤ 256 = omega (arith, same, most, few) in
    let within : are_within (length terms * 2 ^ 54) (collected terms) ≡ true = within-collected (2 ^ 54) terms (within-named (2 ^ 54) (name_in args) lin.terms ∙ thin) in
    let room : length terms * 2 ^ 54 < 2 ^ 63 = omega (arith, count) in
    both (are_short (collected terms)) (is_long lin.constant) (within-short (length terms * 2 ^ 54) (collected terms) room within) long

lit-room : (args : List ℕ) (lit : Lit) → length args ≤ 256 → lit_is_thin lit ≡ true → lit_is_below (length args) lit ≡ true → lit_fits (lit_at args lit) ≡ true
lit-room args (Le lin) few is below = (let parts = both_true (is_linear lin) _ is in lin-room args lin few parts.0 below parts.1)
lit-room args (Eq lin) few is below = (let parts = both_true (is_linear lin) _ is in lin-room args lin few parts.0 below parts.1)
lit-room args (Div d lin) few is below = (let parts = both_true (is_linear lin) _ is in lin-room args lin few parts.0 below parts.1)
lit-room args (NDiv d lin) few is below = (let parts = both_true (is_linear lin) _ is in lin-room args lin few parts.0 below parts.1)

pub thin-room : (args : List ℕ) (cube : List Lit) → length args ≤ 256 → cube_is_thin cube ≡ true → cube_is_below (length args) cube ≡ true → has_room args cube ≡ true
thin-room args [] few is below = refl
thin-room args (l ∷ ls) few is below =
    let parts = both_true (lit_is_thin l) _ is in
    let under = both_true (lit_is_below (length args) l) _ below in
    both (lit_fits (lit_at args l)) (has_room args ls) (lit-room args l few parts.0 under.0) (thin-room args ls few parts.1 under.1)
