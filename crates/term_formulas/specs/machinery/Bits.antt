-- What stands for a Bool term, as the code keeps it.
use Rattle.std.specs.Prelude.{true, false, pos}
use Rattle.lin_atoms.specs.Linear.{Linear, of_constant}
use Rattle.linear_terms.specs.Linear.{variable_form}
use Rattle.term_formulas.specs.declared.bits.Bit.{Bit}
use Rattle.term_formulas.specs.declared.bits.Bit.TheVariants.{Truth, Variable}

abbrev pub bit_form : Bit → Linear
bit_form (Variable v) = variable_form v
bit_form (Truth true) = of_constant (pos 1)
bit_form (Truth false) = of_constant (pos 0)
