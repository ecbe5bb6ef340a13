-- The formula that a list of literals stands for.
use Rattle.std.specs.Prelude.{List, map}
use Rattle.lin_atoms.specs.declared.lit.Lit.{Lit}
use Rattle.lin_atoms.specs.declared.form.Form.{Form}
use Rattle.lin_atoms.specs.declared.form.Form.TheVariants.{Lit as Literal}
use Rattle.lin_atoms.specs.declared.form.Form.TheViews.{And}

-- each of them is true
abbrev pub conjunction : List Lit → Form
conjunction lits = And (map (λ lit. Literal lit) lits)
