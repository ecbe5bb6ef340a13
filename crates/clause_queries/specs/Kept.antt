-- What every cube keeps: its literals are linear forms, and its numbers are short.
use Rattle.std.specs.Prelude.{List, Bool, ◌&&◌}
use Rattle.std.specs.List.{list_all}
use Rattle.lin_atoms.specs.Denial.{linear_of}
use Rattle.lin_atoms.specs.Linear.{is_linear}
use Rattle.lin_atoms.specs.declared.lit.Lit.{Lit}
use Rattle.cube_forms.specs.Cubes.{cube_is_short}
use Rattle.lemma_frames.specs.declared.framed.Framed.{Framed}

abbrev pub are_linear : List Lit → Bool
are_linear lits = list_all (λ lit. is_linear (linear_of lit)) lits

abbrev pub is_kept : List Lit → Bool
is_kept cube = are_linear cube && cube_is_short cube

abbrev pub lemma_is_kept : Framed → Bool
lemma_is_kept f = is_kept f.lemma
