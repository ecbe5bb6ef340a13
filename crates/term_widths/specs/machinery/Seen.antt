-- Terms in whose text no comparison has a wide difference.
use Rattle.std.specs.Prelude.{◌≡◌, ℕ, List, Option, Some, None, Bool, true, false, ℤ}
use Rattle.std.specs.Ordering.{nat_cmp}
use Rattle.std.specs.BTreeMap.{BTreeMap, get}
use Rattle.term_tree.specs.declared.node.TermId.{TermId}
use Rattle.term_tree.specs.declared.node.OpKind.{OpKind}
use Rattle.term_tree.specs.declared.node.OpKind.TheVariants.{Add, Sub, Mul}
use Rattle.term_tree.specs.declared.node.Node.{Node}
use Rattle.linear_terms.specs.Linear.{Naming}
use Rattle.linear_terms.specs.Width.{first_among, first_where}
use Rattle.term_forms.specs.Found.{is_wide}
use Rattle.term_widths.specs.Wide.{has_wide_sides}

-- no subterm of the term has a wide linear form
abbrev pub IsNarrowTerm : (ℕ → Option ℤ) → Naming → List Node → ℕ → Type 0
IsNarrowTerm constant naming nodes id = first_where (is_wide constant naming nodes) nodes id ≡ None

-- the same of each of these
abbrev pub AreNarrowTerms : (ℕ → Option ℤ) → Naming → List Node → List TermId → Type 0
AreNarrowTerms constant naming nodes ids = first_among (first_where (is_wide constant naming nodes) nodes) ids ≡ None

-- each term that was seen has no comparison with a wide difference
abbrev pub AreClear : (ℕ → Option ℤ) → Naming → List Node → BTreeMap ℕ Bool → Type 0
AreClear constant naming nodes seen = (q : ℕ) (b : Bool) → get nat_cmp seen q ≡ Some b → first_where (has_wide_sides constant naming nodes) nodes q ≡ None

-- the operator's form is made of those of its arguments
abbrev pub is_sum : OpKind → Bool
is_sum Add = true
is_sum Sub = true
is_sum Mul = true
is_sum _ = false
