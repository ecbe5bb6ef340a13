-- The walk for comparisons with a wide difference, by nodes and part by part.
use Rattle.std.proofs.Common.{◌≡◌, ℕ, ◌+◌, ◌<◌, ◌≤◌, List, [], ◌∷◌, length, drop, get_or, Bool, true, ◌&&◌, inl, inr, refl, ap, sym, ◌∙◌, arith}
use Rattle.std.specs.Prelude.{slice_get, Option, Some, None, false, ℤ, nat_lt, if◌then◌else◌}
use Rattle.std.specs.List.{list_all}
use Rattle.std.specs.Ordering.{nat_cmp}
use Rattle.std.specs.BTreeMap.{BTreeMap, get}
use Rattle.std.proofs.lemmas.Bool.{cases_eq}
use Rattle.std.proofs.lemmas.Bool.Decides.{nat_tests}
use Rattle.std.proofs.lemmas.List.{drop_more}
use Rattle.term_tree.specs.declared.node.TermId.{TermId}
use Rattle.term_tree.specs.declared.node.Node.{Node}
use Rattle.term_tree.specs.declared.node.Node.TheVariants.{LetVar, Pred, Op, Divisible, Let, Forall, Exists}
use Rattle.term_tree.specs.Arena.{has_parts_below, is_below}
use Rattle.term_tree.proofs.Public.{both_true}
use Rattle.lin_atoms.specs.Linear.{Linear}
use Rattle.linear_terms.specs.Linear.{Naming}
use Rattle.linear_terms.specs.Width.{first_among, first_of_two, first_where, is_wide_relation, text_parts}
use Rattle.term_forms.specs.Found.{form_by, is_wide}
use Rattle.term_forms.specs.machinery.Reading.{is_leaf}
use Rattle.term_forms.proofs.FoundLemmas.{first_at}
use Rattle.term_forms.proofs.ReadingLemmas.{leaf_parts}
use Rattle.term_widths.specs.Wide.{has_wide_sides}
use Rattle.term_widths.specs.machinery.Seen.{AreClear, AreNarrowTerms, IsNarrowTerm}

pub none_first : (a b : Option ℕ) → first_of_two a b ≡ None → a ≡ None
none_first None b h = refl
none_first (Some id) b h = absurd (cc)

pub none_second : (a b : Option ℕ) → first_of_two a b ≡ None → b ≡ None
none_second None b h = h
none_second (Some id) b h = absurd (cc)

-- no linear form in the parts of a term is wide, where none is in the term
pub parts_narrow : (constant : ℕ → Option ℤ) (naming : Naming) (nodes : List Node) (id : ℕ) (node : Node) → slice_get nodes id ≡ Some node → has_parts_below id node ≡ true
    → IsNarrowTerm constant naming nodes id → AreNarrowTerms constant naming nodes (text_parts node)
parts_narrow constant naming nodes id node is below narrow =
    none_first (first_among (first_where (is_wide constant naming nodes) nodes) (text_parts node)) (if is_wide constant naming nodes id then Some id else None)
    (sym (first_at (is_wide constant naming nodes) nodes id node is below) ∙ narrow)

-- the first comparison, by the node
pub seek_at : (constant : ℕ → Option ℤ) (naming : Naming) (nodes : List Node) (id : ℕ) (node : Node) → slice_get nodes id ≡ Some node → has_parts_below id node ≡ true
    → first_where (has_wide_sides constant naming nodes) nodes id
    ≡ first_of_two (first_among (first_where (has_wide_sides constant naming nodes) nodes) (text_parts node)) (if is_wide_relation (form_by constant naming nodes) (Some node) then Some id else None)
seek_at constant naming nodes id node is below =
    first_at (has_wide_sides constant naming nodes) nodes id node is below
    ∙ ap (λ (o : Option Node). first_of_two (first_among (first_where (has_wide_sides constant naming nodes) nodes) (text_parts node)) (if is_wide_relation (form_by constant naming nodes) o then Some id else None)) is

-- one part of which nothing is found, and the others
pub among_more : (p : ℕ → Option ℕ) (ids : List TermId) (i : ℕ) (d : TermId) (whole : Option ℕ) → i < length ids → first_among p (drop i ids) ≡ whole → p (get_or ids i d).0 ≡ None
    → first_among p (drop (i + 1) ids) ≡ whole
among_more p ids i d whole h is none =
    sym (ap (first_among p) (drop_more ids i d h) ∙ ap (λ (o : Option ℕ). first_of_two o (first_among p (drop (i + 1) ids))) none) ∙ is

-- one part of which something is found
pub among_found : (p : ℕ → Option ℕ) (ids : List TermId) (i : ℕ) (d : TermId) (whole : Option ℕ) (at : ℕ) → i < length ids → first_among p (drop i ids) ≡ whole → p (get_or ids i d).0 ≡ Some at
    → Some at ≡ whole
among_found p ids i d whole at h is some =
    sym (ap (first_among p) (drop_more ids i d h) ∙ ap (λ (o : Option ℕ). first_of_two o (first_among p (drop (i + 1) ids))) some) ∙ is

-- nothing is found of one part, nor of the others
pub none_at : (p : ℕ → Option ℕ) (ids : List TermId) (i : ℕ) (d : TermId) → i < length ids → first_among p (drop i ids) ≡ None → (p (get_or ids i d).0 ≡ None) × (first_among p (drop (i + 1) ids) ≡ None)
none_at p ids i d h none =
    let split : first_of_two (p (get_or ids i d).0) (first_among p (drop (i + 1) ids)) ≡ None = sym (ap (first_among p) (drop_more ids i d h)) ∙ none in
    (none_first (p (get_or ids i d).0) (first_among p (drop (i + 1) ids)) split, none_second (p (get_or ids i d).0) (first_among p (drop (i + 1) ids)) split)

-- one more term was seen
pub clear_more : (constant : ℕ → Option ℤ) (naming : Naming) (nodes : List Node) (old new : BTreeMap ℕ Bool) (id : ℕ) → AreClear constant naming nodes old
    → first_where (has_wide_sides constant naming nodes) nodes id ≡ None → ((q : ℕ) → (id ≡ q → ⊥) → get nat_cmp new q ≡ get nat_cmp old q) → AreClear constant naming nodes new
clear_more constant naming nodes old new id are none others q b has = elim (cases_eq id q) [
  | inl same ↦ ap (first_where (has_wide_sides constant naming nodes) nodes) (sym same) ∙ none
  | inr differ ↦ are q b (sym (others q differ) ∙ has)
]

-- something is found in the parts
pub seek_by_parts : (constant : ℕ → Option ℤ) (naming : Naming) (nodes : List Node) (id : ℕ) (node : Node) (at : ℕ) → slice_get nodes id ≡ Some node → has_parts_below id node ≡ true
    → first_among (first_where (has_wide_sides constant naming nodes) nodes) (text_parts node) ≡ Some at → first_where (has_wide_sides constant naming nodes) nodes id ≡ Some at
seek_by_parts constant naming nodes id node at is below some =
    seek_at constant naming nodes id node is below
    ∙ ap (λ (o : Option ℕ). first_of_two o (if is_wide_relation (form_by constant naming nodes) (Some node) then Some id else None)) some

-- nothing is found in the parts
pub seek_by_node : (constant : ℕ → Option ℤ) (naming : Naming) (nodes : List Node) (id : ℕ) (node : Node) (wide : Bool) → slice_get nodes id ≡ Some node → has_parts_below id node ≡ true
    → first_among (first_where (has_wide_sides constant naming nodes) nodes) (text_parts node) ≡ None → wide ≡ is_wide_relation (form_by constant naming nodes) (Some node)
    → first_where (has_wide_sides constant naming nodes) nodes id ≡ (if wide then Some id else None)
seek_by_node constant naming nodes id node wide is below none told =
    seek_at constant naming nodes id node is below
    ∙ ap (λ (o : Option ℕ). first_of_two o (if is_wide_relation (form_by constant naming nodes) (Some node) then Some id else None)) none
    ∙ ap (λ (b : Bool). if b then Some id else None) (sym told)

-- a leaf is no comparison
leaf_compares : (linear : ℕ → Linear) (node : Node) → is_leaf node ≡ true → is_wide_relation linear (Some node) ≡ false
leaf_compares linear (LetVar bound) leaf = refl
leaf_compares linear (Pred pred args) leaf = refl
leaf_compares linear (Op op args) leaf = absurd (cc)
leaf_compares linear (Divisible by arg) leaf = refl
leaf_compares linear (Let bound body) leaf = refl
leaf_compares linear (Forall first sorts body) leaf = refl
leaf_compares linear (Exists first sorts body) leaf = refl
leaf_compares linear _ leaf = refl

-- nothing is found in a leaf
pub leaf_clear : (constant : ℕ → Option ℤ) (naming : Naming) (nodes : List Node) (id : ℕ) (node : Node) → slice_get nodes id ≡ Some node → has_parts_below id node ≡ true
    → is_leaf node ≡ true → first_where (has_wide_sides constant naming nodes) nodes id ≡ None
leaf_clear constant naming nodes id node is below leaf =
    seek_by_node constant naming nodes id node false is below
    (ap (first_among (first_where (has_wide_sides constant naming nodes) nodes)) (leaf_parts node leaf))
    (sym (leaf_compares (form_by constant naming nodes) node leaf))

less_there : (k n m : ℕ) → n ≤ m → nat_lt k n ≡ true → nat_lt k m ≡ true
less_there k n m h less = grind (arith, nat_tests)

pub all_there : (n m : ℕ) (ids : List TermId) → n ≤ m → list_all (is_below n) ids ≡ true → list_all (is_below m) ids ≡ true
all_there n m [] h below = refl
all_there n m (id ∷ ids) h below =
    let both = both_true (nat_lt id.0 n) (list_all (is_below n) ids) below in
    ap (λ (b : Bool). b && list_all (is_below m) ids) (less_there id.0 n m h both.0) ∙ all_there n m ids h both.1

-- parts that stand before their node are there
pub parts_there : (n m : ℕ) (node : Node) → n ≤ m → has_parts_below n node ≡ true → has_parts_below m node ≡ true
parts_there n m (LetVar bound) h below = less_there bound.0 n m h below
parts_there n m (Pred pred args) h below = all_there n m args h below
parts_there n m (Op op args) h below = all_there n m args h below
parts_there n m (Divisible by arg) h below = less_there arg.0 n m h below
parts_there n m (Let bound body) h below =
    let both = both_true (list_all (is_below n) bound) (nat_lt body.0 n) below in
    ap (λ (b : Bool). b && nat_lt body.0 m) (all_there n m bound h both.0) ∙ less_there body.0 n m h both.1
parts_there n m (Forall first sorts body) h below = less_there body.0 n m h below
parts_there n m (Exists first sorts body) h below = less_there body.0 n m h below
parts_there n m _ h below = refl
