-- The code's tests of areas and cubes are the rules'.
use Rattle.std.proofs.Common.{◌≡◌, ℕ, ℤ, List, Bool, true, false, ◌&&◌, ◌||◌, refl, ap, ap₂, sym, ◌∙◌}
use Rattle.std.specs.List.{list_all}
use Rattle.lin_atoms.specs.Denial.{lit_fits}
use Rattle.lin_atoms.specs.declared.lit.Lit.{Lit}
use Rattle.clause_form.specs.declared.atom.Atom.{Atom}
use Rattle.clause_form.specs.declared.clause.Clause.{Clause}
use Rattle.cube_forms.specs.Cubes.{cube_at, has_room}
use Rattle.model_project.specs.Kept.{Kept}
use Rattle.book_rules.specs.Areas.{cover, is_among, is_area, is_of_frame, knows, same_variables, stands_in}
use Rattle.book_rules.specs.Frames.{Framed}
use Rattle.book_rules.specs.Queries.{args_of}
use Rattle.book_rules.specs.Same.{same_cube, same_tuple}
use Rattle.cube_rules.specs.machinery.Literals.{are_placed, frame_lits}
use Rattle.cube_rules.proofs.LiteralLemmas.{all-stand, cubes-apart, head-wide}

first-fails : (b c : Bool) → b ≡ false → false ≡ (b && c)
first-fails b c is = sym (ap (λ x. x && c) is)

pub placed-none : (clause : Clause) (cube : List Lit) (es : List Framed) (k : ℕ) (area : Kept) → list_all lit_fits area.lits ≡ true → has_room (args_of clause.head) cube ≡ false → false ≡ are_placed clause cube es k area
placed-none clause cube es k area room wide = first-fails (list_all (is_among area.lits) (cube_at (args_of clause.head) cube)) _ (head-wide area.lits (args_of clause.head) cube room wide)

pub placed-some : (clause : Clause) (cube : List Lit) (es : List Framed) (k : ℕ) (area : Kept) (head frame : List Lit) → list_all lit_fits area.lits ≡ true → head ≡ cube_at (args_of clause.head) cube → frame ≡ frame_lits es k clause.atoms
    → (list_all (is_among area.lits) head && list_all (λ lit. stands_in lit clause.guard || is_among head lit || is_among frame lit) area.lits) ≡ are_placed clause cube es k area
placed-some clause cube es k area head frame room is frames =
    ap (λ b. list_all (is_among area.lits) head && b) (all-stand clause.guard head frame es k clause.atoms frames area.lits room)
    ∙ ap (λ (ls : List Lit). list_all (is_among area.lits) ls && list_all (λ lit. stands_in lit clause.guard || is_among ls lit || is_of_frame es k clause.atoms lit) area.lits) is

opened : (a b c rest more : Bool) → a ≡ true → b ≡ true → c ≡ true → (rest && more) ≡ (a && b && c && rest && more)
opened true true true rest more p q r = refl
opened true true false rest more p q r = absurd (cc)
opened true false c rest more p q r = absurd (cc)
opened false b c rest more p q r = absurd (cc)

pub area-is : (clause : Clause) (point : List ℤ) (atom : Atom) (cube : List Lit) (es : List Framed) (k : ℕ) (area : Kept) → same_variables area.keep atom.args ≡ true → same_tuple area.model point ≡ true → cover area.lits clause.guard ≡ true → are_placed clause cube es k area ≡ is_area clause point atom cube es k area
area-is clause point atom cube es k area variables model covers = opened (same_variables area.keep atom.args) (same_tuple area.model point) (cover area.lits clause.guard) _ _ variables model covers

fails-1 : (a b c d e : Bool) → a ≡ false → false ≡ (a && b && c && d && e)
fails-1 a b c d e is = sym (ap (λ x. x && b && c && d && e) is)

fails-2 : (a b c d e : Bool) → b ≡ false → false ≡ (a && b && c && d && e)
fails-2 true b c d e is = sym (ap (λ x. x && c && d && e) is)
fails-2 false b c d e is = refl

fails-3 : (a b c d e : Bool) → c ≡ false → false ≡ (a && b && c && d && e)
fails-3 true true c d e is = sym (ap (λ x. x && d && e) is)
fails-3 true false c d e is = refl
fails-3 false b c d e is = refl

pub no-variables : (clause : Clause) (point : List ℤ) (atom : Atom) (cube : List Lit) (es : List Framed) (k : ℕ) (area : Kept) → same_variables area.keep atom.args ≡ false → false ≡ is_area clause point atom cube es k area
no-variables clause point atom cube es k area is = fails-1 (same_variables area.keep atom.args) (same_tuple area.model point) (cover area.lits clause.guard) _ _ is

pub no-model : (clause : Clause) (point : List ℤ) (atom : Atom) (cube : List Lit) (es : List Framed) (k : ℕ) (area : Kept) → same_tuple area.model point ≡ false → false ≡ is_area clause point atom cube es k area
no-model clause point atom cube es k area is = fails-2 (same_variables area.keep atom.args) (same_tuple area.model point) (cover area.lits clause.guard) _ _ is

pub no-cover : (clause : Clause) (point : List ℤ) (atom : Atom) (cube : List Lit) (es : List Framed) (k : ℕ) (area : Kept) → cover area.lits clause.guard ≡ false → false ≡ is_area clause point atom cube es k area
no-cover clause point atom cube es k area is = fails-3 (same_variables area.keep atom.args) (same_tuple area.model point) (cover area.lits clause.guard) _ _ is

-- a cube where the projected one is wide, and no kept cube
only-point : (a p h w : Bool) → a ≡ false → w ≡ true → p ≡ (a || (p && (h || w)))
only-point true p h w is wide = absurd (cc)
only-point false true true w is wide = refl
only-point false true false w is wide = sym wide
only-point false false h w is wide = refl

pub cube-none : (cube projected point : List Lit) (h w : Bool) → list_all lit_fits cube ≡ true → list_all lit_fits projected ≡ false → w ≡ true → same_cube cube point ≡ (same_cube cube projected || (same_cube cube point && (h || w)))
cube-none cube projected point h w room apart wide = only-point (same_cube cube projected) (same_cube cube point) h w (cubes-apart cube projected room apart) wide
