-- What a conjunction gives: its literals, in order, and its disjunctions, each as the list of its parts. `False` is the literal 1 <= 0.
use Rattle.std.specs.Prelude.{pos, List, [], ◌∷◌, ◌++◌}
use Rattle.std.specs.List.{flat_map}
use Rattle.lin_atoms.specs.Linear.{of_constant}
use Rattle.lin_atoms.specs.declared.lit.Lit.{Lit}
use Rattle.lin_atoms.specs.declared.lit.Lit.TheVariants.{Le}
use Rattle.lin_atoms.specs.declared.form.Form.{Form, And', Or', Row_of-Form, end_of-Form, more_of-Form, items-the_row-Form}
use Rattle.lin_atoms.specs.declared.form.Form.TheOpen.{Form-F}
use Rattle.lin_atoms.specs.declared.form.Form.TheFolds.{fold-Form}

abbrev pub literals_step : Form-F (List Lit) → List Lit
literals_step Form-F.True = []
literals_step Form-F.False = Le (of_constant (pos 1)) ∷ []
literals_step (Form-F.Lit lit) = lit ∷ []
literals_step (Form-F.And parts) = flat_map (λ lits. lits) parts
literals_step (Form-F.Or parts) = []

abbrev pub literals : Form → List Lit
literals = fold-Form (List Lit) literals_step

-- the disjunctions stay open: nothing is known of their parts
abbrev mutual
  pub disjunctions : Form → List (List Form)
  disjunctions (And' shape parts) = disjunctions_of_row parts
  disjunctions (Or' shape parts) = items-the_row-Form _ parts ∷ []
  disjunctions _ = []

  pub disjunctions_of_row : {n : _} → Row_of-Form n → List (List Form)
  disjunctions_of_row end_of-Form = []
  disjunctions_of_row (more_of-Form part rest) = disjunctions part ++ disjunctions_of_row rest
