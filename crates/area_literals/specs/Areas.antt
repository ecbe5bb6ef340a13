-- Literals that are true at a point and imply, of a clause, its guard, a cube on its head and a frame on its body
-- (Komuravelli, Gurfinkel and Chaki, "SMT-based model checking for recursive programs", section 4).
use Rattle.std.specs.Prelude.{◌≡◌, ◌&&◌, ◌||◌, ◌==◌, ◌++◌, ℕ, List, [], ◌∷◌, ℤ, Bool, true, length, nat_le, not}
use Rattle.std.specs.List.{list_all}
use Rattle.lin_atoms.specs.Truth.{lit_truth}
use Rattle.lin_atoms.specs.declared.lit.Lit.{Lit}
use Rattle.clause_form.specs.declared.atom.Atom.{Atom}
use Rattle.clause_form.specs.declared.clause.Clause.{Clause}
use Rattle.cube_forms.specs.Cubes.{cube_at, cube_holds, cube_is_below, has_room, lemma_at, tuple_at}
use Rattle.book_rules.specs.Areas.{cover, is_among, is_of_frame, stands_in}
use Rattle.book_rules.specs.Frames.{Framed}
use Rattle.book_rules.specs.Queries.{args_of}

-- whether a lemma is of F(k) and on the atom's predicate
abbrev pub is_on : ℕ → Atom → Framed → Bool
is_on k atom e = nat_le k e.level && (e.lemma.pred == atom.pred)

-- where it is: it accepts the atom's tuple at the point
abbrev pub accepts_on : ℕ → List ℤ → Atom → Framed → Bool
accepts_on k point atom e = not (is_on k atom e) || not (cube_holds (tuple_at point atom.args) e.lemma.cube)

-- its cube is over the atom's places, and its numbers at the arguments have room
abbrev pub fits_on : ℕ → Atom → Framed → Bool
fits_on k atom e = not (is_on k atom e) || (cube_is_below (length atom.args) e.lemma.cube && has_room atom.args e.lemma.cube)

-- and literals cover its form at the arguments
abbrev pub is_known_on : ℕ → Atom → Framed → List Lit → Bool
is_known_on k atom e lits = not (is_on k atom e) || cover lits (lemma_at atom.args e.lemma.cube)

-- the same of all lemmas of F(k)
abbrev pub all_accept_on : ℕ → List ℤ → List Framed → Atom → Bool
all_accept_on k point es atom = list_all (accepts_on k point atom) es

abbrev pub all_fit_on : ℕ → List Framed → Atom → Bool
all_fit_on k es atom = list_all (fits_on k atom) es

abbrev pub all_known_on : ℕ → List Framed → Atom → List Lit → Bool
all_known_on k es atom lits = list_all (λ e. is_known_on k atom e lits) es

-- each of these is another one than those before it
abbrev pub are_new : List Lit → List Lit → Bool
are_new before [] = true
are_new before (lit ∷ more) = not (is_among before lit) && are_new (before ++ lit ∷ []) more

-- literals of the guard, then of the cube at the head, then of the frame on the body, that are true at the point and cover all of these, each once
pub record IsAreaOf (clause : Clause) (cube : List Lit) (es : List Framed) (k : ℕ) (point : List ℤ) (lits : List Lit) : Type 0 where
  pub guard_lits : List Lit
  pub cube_lits : List Lit
  pub frame_lits : List Lit
  pub is : lits ≡ guard_lits ++ (cube_lits ++ frame_lits)
  pub of_guard : list_all (λ lit. stands_in lit clause.guard) guard_lits ≡ true
  pub of_cube : list_all (is_among (cube_at (args_of clause.head) cube)) cube_lits ≡ true
  pub of_frame : list_all (is_of_frame es k clause.atoms) frame_lits ≡ true
  pub hold : list_all (lit_truth point) lits ≡ true
  pub once : are_new [] lits ≡ true
  pub guard : cover lits clause.guard ≡ true
  pub head : list_all (is_among lits) (cube_at (args_of clause.head) cube) ≡ true
  pub known : list_all (λ atom. all_known_on k es atom lits) clause.atoms ≡ true
