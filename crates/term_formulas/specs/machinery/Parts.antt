-- Bits, and lists of formulas as the code makes them.
use Rattle.std.specs.Prelude.{◌≡◌, ◌<◌, ℕ, ◌+◌, ◌==◌, ◌&&◌, List, [], ◌∷◌, length, map, Option, Some, Bool, true, false, not, slice_get, ◌⊎◌, IsTrue, ℤ, pos}
use Rattle.std.specs.List.{AllByRecursion, list_all}
use Rattle.term_tree.specs.declared.node.TermId.{TermId}
use Rattle.term_tree.specs.declared.node.OpKind.{OpKind}
use Rattle.term_tree.specs.declared.node.OpKind.TheVariants.{Ite, Abs, Div as Quotient, Mod as Remainder}
use Rattle.term_tree.specs.declared.node.Node.{Node}
use Rattle.term_tree.specs.declared.node.Node.TheVariants.{Num, Op}
use Rattle.term_tree.specs.Arena.{is_below}
use Rattle.term_tree.specs.Subterms.{is_part}
use Rattle.lin_atoms.specs.Linear.{Linear, lin_all, of_constant}
use Rattle.lin_atoms.specs.declared.form.Form.{Form}
use Rattle.linear_terms.specs.Linear.{Naming, is_narrow, variable_form}
use Rattle.linear_terms.specs.Text.{Sorting, are_truths}
use Rattle.linear_terms.specs.Width.{is_relation, is_wide_relation}
use Rattle.term_forms.specs.Found.{form_by}
use Rattle.term_widths.specs.machinery.Seen.{AreNarrowTerms}
use Rattle.term_formulas.specs.Written.{HasRoom}
use Rattle.term_formulas.specs.machinery.Fresh.{IsFresh}

-- of each of these terms
abbrev pub each : (ℕ → Bool → Form) → Bool → List TermId → List Form
each part sign ids = map (λ id. part id.0 sign) ids

-- a variable, 0 or 1
abbrev pub IsBit : Linear → Type 0
IsBit form = ((v : ℕ) × (form ≡ variable_form v)) ⊎ ((form ≡ of_constant (pos 0)) ⊎ (form ≡ of_constant (pos 1)))

abbrev pub AreBits : List Linear → Type 0
AreBits forms = AllByRecursion IsBit forms

-- each of these parts of a term has room and stands before it
abbrev pub HaveRoom : (ℕ → Option ℤ) → Naming → List Node → ℕ → List TermId → Type 0
HaveRoom constant naming nodes above ids = AllByRecursion (λ id. (id.0 < above) × HasRoom constant naming nodes id.0) ids

-- the sides are there with narrow forms, and no difference that the operator makes of them is wide
pub record ComparesWithRoom (constant : ℕ → Option ℤ) (naming : Naming) (nodes : List Node) (op : OpKind) (args : List TermId) : Type 0 where
  pub there : IsTrue (list_all (is_below (length nodes)) args)
  pub narrow : AreNarrowTerms constant naming nodes args
  pub sides : is_wide_relation (form_by constant naming nodes) (Some (Op op args)) ≡ false

abbrev pub is_number_there : Option Node → Bool
is_number_there (Some (Num n)) = true
is_number_there _ = false

-- a relation of two integer terms
abbrev pub relates_integers_there : Sorting → Option Node → Bool
relates_integers_there sorts (Some (Op op (a ∷ b ∷ []))) = is_relation op && not (are_truths sorts (a ∷ b ∷ []))
relates_integers_there sorts _ = false

-- a narrow form in which the variable doesn't occur
abbrev pub IsApart : ℕ → Linear → Type 0
IsApart v form = IsTrue (is_narrow form) × IsTrue (lin_all (λ u. not (u == v)) form)

-- the term of the second number is a part of that of the first
abbrev pub IsMadeOf : List Node → ℕ → ℕ → Type 0
IsMadeOf nodes id part = (node : Node) × (slice_get nodes id ≡ Some node) × IsTrue (is_part part node)

-- an integer term that is no sum of its parts
abbrev pub is_unit_node : Option Node → Bool
is_unit_node (Some (Op Ite args)) = true
is_unit_node (Some (Op Abs args)) = true
is_unit_node (Some (Op Quotient args)) = true
is_unit_node (Some (Op Remainder args)) = true
is_unit_node _ = false

-- an operation that has an auxiliary variable for its value has as many arguments as it takes
abbrev pub is_shaped : Option Node → Bool
is_shaped (Some (Op Ite args)) = length args == 3
is_shaped (Some (Op Abs args)) = length args == 1
is_shaped (Some (Op Quotient args)) = length args == 2
is_shaped (Some (Op Remainder args)) = length args == 2
is_shaped _ = true

-- each of these terms has room, and an auxiliary variable that is no other's, numbered from `first` on
abbrev pub ArePlaces : (ℕ → Option ℤ) → Naming → List Node → ℕ → List ℕ → Type 0
ArePlaces constant naming nodes first [] = Unit {0}
ArePlaces constant naming nodes first (id ∷ ids) =
    HasRoom constant naming nodes id × IsFresh nodes naming first id × IsTrue (is_shaped (slice_get nodes id)) × ArePlaces constant naming nodes (first + 1) ids
