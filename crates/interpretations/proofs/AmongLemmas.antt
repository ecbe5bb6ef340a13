-- Cubes of lent lemmas, one after another.
use Rattle.std.proofs.Common.{◌≡◌, ℕ, zero, suc, ◌+◌, ◌<◌, ◌≤◌, List, [], ◌∷◌, length, drop, get_or, Bool, true, false, ◌||◌, ap, sym, ◌∙◌, arith, Bor}
use Rattle.std.proofs.lemmas.List.{drop_all, drop_more}
use Rattle.std.specs.List.{list_any}
use Rattle.lin_atoms.specs.declared.lit.Lit.{Lit}
use Rattle.book_rules.specs.Same.{same_cube}
use Rattle.interpretations.specs.machinery.Cubes.{cubes_of}

next : (kept : List (Bor (List Lit))) (i : ℕ) (one : Bor (List Lit)) → i < length kept → one ≡ get_or kept i one → drop i kept ≡ one ∷ drop (i + 1) kept
next kept i one within is = drop_more kept i one within ∙ ap (λ (x : Bor (List Lit)). x ∷ drop (i + 1) kept) (sym is)

pub among-here : (cube : List Lit) (kept : List (Bor (List Lit))) (i : ℕ) (one : Bor (List Lit)) → i < length kept → one ≡ get_or kept i one → same_cube cube one.now ≡ true
    → list_any (same_cube cube) (cubes_of (drop i kept)) ≡ list_any (same_cube cube) (cubes_of kept) → true ≡ list_any (same_cube cube) (cubes_of kept)
among-here cube kept i one within is same so-far =
    sym (ap (λ (xs : List (Bor (List Lit))). list_any (same_cube cube) (cubes_of xs)) (next kept i one within is) ∙ ap (λ (b : Bool). b || list_any (same_cube cube) (cubes_of (drop (i + 1) kept))) same)
    ∙ so-far

pub among-next : (cube : List Lit) (kept : List (Bor (List Lit))) (i : ℕ) (one : Bor (List Lit)) → i < length kept → one ≡ get_or kept i one → same_cube cube one.now ≡ false
    → list_any (same_cube cube) (cubes_of (drop i kept)) ≡ list_any (same_cube cube) (cubes_of kept)
    → list_any (same_cube cube) (cubes_of (drop (i + 1) kept)) ≡ list_any (same_cube cube) (cubes_of kept)
among-next cube kept i one within is other so-far =
    sym (ap (λ (xs : List (Bor (List Lit))). list_any (same_cube cube) (cubes_of xs)) (next kept i one within is) ∙ ap (λ (b : Bool). b || list_any (same_cube cube) (cubes_of (drop (i + 1) kept))) other)
    ∙ so-far

pub among-end : (cube : List Lit) (kept : List (Bor (List Lit))) (i : ℕ) → length kept ≤ i → list_any (same_cube cube) (cubes_of (drop i kept)) ≡ list_any (same_cube cube) (cubes_of kept)
    → false ≡ list_any (same_cube cube) (cubes_of kept)
among-end cube kept i past so-far = sym (ap (λ (xs : List (Bor (List Lit))). list_any (same_cube cube) (cubes_of xs)) (drop_all i kept past)) ∙ so-far

-- the cube at a place
pub cube-within : (kept : List (Bor (List Lit))) (i : ℕ) → i < length kept → i < length (cubes_of kept)
cube-within [] i within = absurd (omega (arith, within))
cube-within (one ∷ kept) zero within = omega arith
cube-within (one ∷ kept) (suc i) within = let later = cube-within kept i (omega (arith, within)) in omega (arith, later)

pub cube-at : (kept : List (Bor (List Lit))) (i : ℕ) (one : Bor (List Lit)) → i < length kept → one ≡ get_or kept i one → one.now ≡ get_or (cubes_of kept) i one.now
cube-at [] i one within is = absurd (omega (arith, within))
cube-at (x ∷ kept) zero one within is = ap (λ (b : Bor (List Lit)). b.now) is
cube-at (x ∷ kept) (suc i) one within is = cube-at kept i one (omega (arith, within)) is

pub cubes-past : (kept : List (Bor (List Lit))) (i : ℕ) → length kept ≤ i → length (cubes_of kept) ≤ i
cubes-past [] i past = omega arith
cubes-past (one ∷ kept) zero past = absurd (omega (arith, past))
cubes-past (one ∷ kept) (suc i) past = let later = cubes-past kept i (omega (arith, past)) in omega (arith, later)
