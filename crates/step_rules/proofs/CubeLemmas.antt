-- Which of two cubes a step's cube may be, and a literal that shuts a tuple out of a cube.
use Rattle.std.proofs.Common.{◌≡◌, Bool, true, false, not, ◌&&◌, ◌||◌, List, [], ◌∷◌, ℤ, refl, ap, sym}
use Rattle.std.specs.List.{list_any}
use Rattle.lin_atoms.specs.Truth.{lit_truth}
use Rattle.lin_atoms.specs.declared.lit.Lit.{Lit}
use Rattle.cube_forms.specs.Cubes.{cube_holds}
use Rattle.step_rules.specs.machinery.Walks.{fails_plainly_at, is_plain}

shut-first : (plain holds fails rest : Bool) → (fails ≡ true → false ≡ rest) → ((plain && not holds) || fails) ≡ true → false ≡ (holds && rest)
shut-first plain false fails rest later any = refl
shut-first true true fails rest later any = later any
shut-first false true fails rest later any = later any

pub shut-plainly : (tuple : List ℤ) (lits : List Lit) → list_any (fails_plainly_at tuple) lits ≡ true → false ≡ cube_holds tuple lits
shut-plainly tuple [] any = absurd (cc)
shut-plainly tuple (lit ∷ lits) any =
    shut-first (is_plain lit) (lit_truth tuple lit) (list_any (fails_plainly_at tuple) lits) (cube_holds tuple lits) (shut-plainly tuple lits) any

pub the-first : (a rest : Bool) → a ≡ true → true ≡ (a || rest)
the-first a rest is = sym (ap (λ b. b || rest) is)

pub neither : (a b c : Bool) → a ≡ false → c ≡ false → false ≡ (a || (b && c))
neither true b c is isnt = absurd (cc)
neither false true c is isnt = sym isnt
neither false false c is isnt = refl

pub the-second : (a b c : Bool) → a ≡ false → c ≡ true → b ≡ (a || (b && c))
the-second true b c is may = absurd (cc)
the-second false true c is may = sym may
the-second false false c is may = refl
