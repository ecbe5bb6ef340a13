-- Literals with room, as the code compares them: one that has none is equal to no literal that is kept.
use Rattle.std.specs.Prelude.{ℕ, ℤ, nat_abs, List, [], filter, Bool, true, ◌&&◌, ◌||◌, ◌==◌, nat_le, if◌then◌else◌}
use Rattle.std.specs.List.{flat_map, list_all}
use Rattle.base.specs.Widths.{thin_limit}
use Rattle.lin_atoms.specs.Denial.{lit_fits}
use Rattle.lin_atoms.specs.declared.lit.Lit.{Lit}
use Rattle.lin_atoms.specs.declared.form.Form.{Form}
use Rattle.lin_atoms.specs.declared.form.Form.TheOpen.{Form-F}
use Rattle.lin_atoms.specs.declared.form.Form.TheFolds.{fold-Form}
use Rattle.clause_form.specs.declared.atom.Atom.{Atom}
use Rattle.cube_forms.specs.Cubes.{cube_at, denials}
use Rattle.clause_form.specs.declared.clause.Clause.{Clause}
use Rattle.model_project.specs.Kept.{Kept}
use Rattle.book_rules.specs.Areas.{is_among, is_of_frame, stands_in}
use Rattle.book_rules.specs.Frames.{Framed}
use Rattle.book_rules.specs.Queries.{args_of}

-- the denials that have room, in order
abbrev pub roomy_denials : List ℕ → List Lit → List Lit
roomy_denials args cube = filter lit_fits (denials args cube)

-- those of the lemmas of F(k) at the arguments of the body atoms of their predicates
abbrev pub lemma_lits : ℕ → Atom → Framed → List Lit
lemma_lits k atom e = if nat_le k e.level && (e.lemma.pred == atom.pred) then roomy_denials atom.args e.lemma.cube else []

abbrev pub atom_lits : List Framed → ℕ → Atom → List Lit
atom_lits es k atom = flat_map (lemma_lits k atom) es

abbrev pub frame_lits : List Framed → ℕ → List Atom → List Lit
frame_lits es k atoms = flat_map (atom_lits es k) atoms

-- whether each literal of a form has room
abbrev pub fits_step : Form-F Bool → Bool
fits_step Form-F.True = true
fits_step Form-F.False = true
fits_step (Form-F.Lit lit) = lit_fits lit
fits_step (Form-F.And parts) = list_all (λ b. b) parts
fits_step (Form-F.Or parts) = list_all (λ b. b) parts

abbrev pub form_fits : Form → Bool
form_fits = fold-Form Bool fits_step

-- whether the area has the cube's literals at the head, and each of its own stands in the guard, among those, or in a form of the frame
abbrev pub are_placed : Clause → List Lit → List Framed → ℕ → Kept → Bool
are_placed clause cube es k area =
    list_all (is_among area.lits) (cube_at (args_of clause.head) cube) && list_all (λ lit. stands_in lit clause.guard || is_among (cube_at (args_of clause.head) cube) lit || is_of_frame es k clause.atoms lit) area.lits

-- whether a coefficient is 2 ^ 54 or more in magnitude
abbrev pub is_wide_term : ℕ × ℤ → Bool
is_wide_term t = nat_le thin_limit (nat_abs t.1)
