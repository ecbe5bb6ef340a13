-- What a search asks of the divisibilities of a formula.
use Rattle.std.specs.Prelude.{Bool, true}
use Rattle.std.specs.List.{list_all}
use Rattle.lin_atoms.specs.declared.form.Form.{Form}
use Rattle.lin_atoms.specs.declared.form.Form.TheOpen.{Form-F}
use Rattle.lin_atoms.specs.declared.form.Form.TheFolds.{fold-Form}
use Rattle.lia_node.specs.Known.{has_short_constant}

-- the constant of each divisibility is short
abbrev pub short_step : Form-F Bool → Bool
short_step Form-F.True = true
short_step Form-F.False = true
short_step (Form-F.Lit lit) = has_short_constant lit
short_step (Form-F.And parts) = list_all (λ b. b) parts
short_step (Form-F.Or parts) = list_all (λ b. b) parts

abbrev pub has_short_multiples : Form → Bool
has_short_multiples = fold-Form Bool short_step
