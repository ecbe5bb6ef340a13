-- What is answered of a term: its linear form, or the first of its subterms, parts before the whole, whose form is wide.
use Rattle.std.specs.Prelude.{◌≡◌, ℕ, List, Bool, not, Option, Some, None, Result, Ok, Err, ℤ}
use Rattle.std.specs.Ordering.{nat_cmp}
use Rattle.std.specs.BTreeMap.{BTreeMap, get}
use Rattle.term_tree.specs.declared.node.Node.{Node}
use Rattle.lin_atoms.specs.Linear.{Linear}
use Rattle.lin_atoms.specs.Algebra.{name_in}
use Rattle.linear_terms.specs.Linear.{Naming, is_narrow, told_linear}
use Rattle.linear_terms.specs.Width.{first_where}
use Rattle.term_forms.specs.declared.stop.FormStop.{FormStop}
use Rattle.term_forms.specs.declared.stop.FormStop.TheVariants.{Memory, Wide}

-- which variable stands for what: names for the term's own variables, and numbers for those of its terms
abbrev pub naming_in : List ℕ → BTreeMap ℕ ℕ → Naming
naming_in own auxiliary = record { own = name_in own; auxiliary = get nat_cmp auxiliary }

-- the linear form, where these values are those of the constants
abbrev pub form_by : (ℕ → Option ℤ) → Naming → List Node → ℕ → Linear
form_by constant naming nodes id = told_linear constant naming nodes id id

abbrev pub is_wide : (ℕ → Option ℤ) → Naming → List Node → ℕ → Bool
is_wide constant naming nodes id = not (is_narrow (form_by constant naming nodes id))

abbrev pub unless_wide : {A : Type 0} → Option ℕ → A → Result A ℕ
unless_wide None x = Ok x
unless_wide (Some at) x = Err at

abbrev pub form_or_wide : (ℕ → Option ℤ) → Naming → List Node → ℕ → Result Linear ℕ
form_or_wide constant naming nodes id = unless_wide (first_where (is_wide constant naming nodes) nodes id) (form_by constant naming nodes id)

-- the answer is what was found, but for want of memory
abbrev pub Tells : Result Linear ℕ → Result Linear FormStop → Type 0
Tells found (Ok form) = found ≡ Ok form
Tells found (Err Memory) = Unit {0}
Tells found (Err (Wide term)) = found ≡ Err term.0

-- each form that is kept is that of its term, and no subterm is wide
abbrev pub AreFound : (ℕ → Option ℤ) → Naming → List Node → BTreeMap ℕ Linear → Type 0
AreFound constant naming nodes known = (q : ℕ) (form : Linear) → get nat_cmp known q ≡ Some form → form_or_wide constant naming nodes q ≡ Ok form
