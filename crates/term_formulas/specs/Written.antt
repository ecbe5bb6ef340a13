-- The formulas of a text, where sorts and the values of constants are kept in tables.
use Rattle.std.specs.Prelude.{◌≡◌, ◌<◌, ℕ, ◌+◌, List, [], ◌∷◌, length, slice_get, Option, None, unwrap_or, Bool, true, false, ℤ, pos, if◌then◌else◌}
use Rattle.term_tree.specs.declared.node.Node.{Node}
use Rattle.term_tree.specs.Constants.{constant_of, has_short_constants, is_linear}
use Rattle.term_tree.specs.Subterms.{EverySubterm, IsSubterm}
use Rattle.lin_atoms.specs.declared.form.Form.{Form}
use Rattle.linear_terms.specs.Text.{Sorting, is_truth}
use Rattle.linear_terms.specs.Linear.{Naming, bit_of, variable_form}
use Rattle.linear_terms.specs.Formula.{TermForms, told_formula}
use Rattle.linear_terms.specs.Place.{integer_place, truth_place}
use Rattle.term_forms.specs.declared.names.Names.{Names}
use Rattle.term_forms.specs.Found.{form_by, naming_in}
use Rattle.term_widths.specs.Wide.{first_wide_by}

abbrev pub naming_by : Names → Naming
naming_by names = naming_in names.own.items names.auxiliary

abbrev pub reading_by : (ℕ → Option ℤ) → Sorting → Naming → List Node → TermForms
reading_by constant sorts naming nodes = record { sorts = sorts; bit = bit_of naming nodes; linear = form_by constant naming nodes }

-- where the Bool term is true, or where it is false
abbrev pub formula_by : (ℕ → Option ℤ) → Sorting → Naming → List Node → ℕ → Bool → Form
formula_by constant sorts naming nodes = told_formula (reading_by constant sorts naming nodes) naming nodes

abbrev pub value_by : (ℕ → Option ℤ) → ℕ → ℤ
value_by constant id = unwrap_or (constant id) (pos 0)

-- what determines an auxiliary variable
abbrev pub place_form_by : (ℕ → Option ℤ) → Sorting → Naming → List Node → ℕ → ℕ → Form
place_form_by constant sorts naming nodes v id =
    if is_truth sorts id
    then truth_place (variable_form v) (formula_by constant sorts naming nodes id true) (formula_by constant sorts naming nodes id false)
    else integer_place (bit_of naming nodes) (form_by constant naming nodes) (value_by constant) (variable_form v) id (slice_get nodes id)

-- of each of these places, the first of which has this number
abbrev pub place_forms_by : (ℕ → Option ℤ) → Sorting → Naming → List Node → ℕ → List ℕ → List Form
place_forms_by constant sorts naming nodes v [] = []
place_forms_by constant sorts naming nodes v (id ∷ ids) = place_form_by constant sorts naming nodes v id ∷ place_forms_by constant sorts naming nodes (v + 1) ids

-- all numbers in the text of the term have room, its products and divisions are linear, and the values that are kept of its
-- constants are theirs
pub record HasRoom (constant : ℕ → Option ℤ) (naming : Naming) (nodes : List Node) (id : ℕ) : Type 0 where
  pub there : id < length nodes
  pub narrow : first_wide_by constant naming nodes id ≡ None
  pub linear : EverySubterm (is_linear (constant_of nodes)) nodes id
  pub short : EverySubterm (has_short_constants (constant_of nodes)) nodes id
  pub constants : (q : ℕ) → IsSubterm nodes id q → q < length nodes → constant q ≡ constant_of nodes q
