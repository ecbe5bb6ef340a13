-- Classes of arguments: first places of the same.
use Rattle.std.proofs.Common.{◌≡◌, ℕ, zero, suc, ◌+◌, ◌<◌, ◌==◌, List, [], ◌∷◌, length, map, cond, Bool, refl, ap, sym, ◌∙◌, subst}
use Rattle.std.specs.Prelude.{slice_get, slice_index_or, position, Option, Some, unwrap_or}
use Rattle.std.specs.List.{AllByRecursion, position_from}
use Rattle.std.proofs.lemmas.Bool.{eqb-true}
use Rattle.std.proofs.lemmas.Iterator.Adapters.{position_from-zero}
use Rattle.term_tree.specs.declared.node.Node.{Node}
use Rattle.term_tree.proofs.Public.{eqb_self}
use Rattle.horn_shape.specs.declared.clause.Part.{Part}
use Rattle.term_widths.proofs.PositionLemmas.{position_is, position_there}
use Rattle.linear_terms.specs.Linear.{Naming}
use Rattle.clause_defined.specs.machinery.Classes.{class_in, first_same, is_same_argument}
use Rattle.clause_defined.specs.machinery.Uses.{variable_of}

-- tests that agree find the same place
from_same : {X : Type 0} (f : X → Bool) (g : ℕ → Bool) (h : X → ℕ) (xs : List X) (i : ℕ) → AllByRecursion (λ x. f x ≡ g (h x)) xs → position_from f i xs ≡ position_from g i (map h xs)
from_same f g h [] i all = refl
from_same f g h (x ∷ xs) i all =
    ap (λ (b : Bool). cond b (Some i) (position_from f (i + 1) xs)) all.0 ∙ ap (cond (g (h x)) (Some i)) (from_same f g h xs (i + 1) all.1)

position_same : {X : Type 0} (f : X → Bool) (g : ℕ → Bool) (h : X → ℕ) (xs : List X) → AllByRecursion (λ x. f x ≡ g (h x)) xs → position_from f 0 xs ≡ position g (map h xs)
position_same f g h xs all = from_same f g h xs 0 all ∙ sym (position_from-zero g (map h xs))

module _ (nodes : List Node) (naming : Naming) (args : List Part) where
  classes_of_some : (parts : List Part) → AllByRecursion (λ b. AllByRecursion (λ a. is_same_argument nodes a b ≡ (variable_of naming nodes a == variable_of naming nodes b)) args) parts
      → map (class_in nodes args) parts ≡ map (first_same (map (variable_of naming nodes) args)) (map (variable_of naming nodes) parts)
  classes_of_some [] all = refl
  classes_of_some (part ∷ parts) all =
      ap (λ (o : Option ℕ). unwrap_or o 0 ∷ map (class_in nodes args) parts)
      (position_same (λ (other : Part). is_same_argument nodes other part) (λ n. n == variable_of naming nodes part) (variable_of naming nodes) args all.0)
      ∙ ap (λ (xs : List ℕ). first_same (map (variable_of naming nodes) args) (variable_of naming nodes part) ∷ xs) (classes_of_some parts all.1)

-- the classes are those of the variables
pub same_classes : (nodes : List Node) (naming : Naming) (args : List Part)
    → AllByRecursion (λ b. AllByRecursion (λ a. is_same_argument nodes a b ≡ (variable_of naming nodes a == variable_of naming nodes b)) args) args
    → map (class_in nodes args) args ≡ map (first_same (map (variable_of naming nodes) args)) (map (variable_of naming nodes) args)
same_classes nodes naming args all = classes_of_some nodes naming args args all

-- what stands in a list stands first at its first place
pub record IsFirst (numbers : List ℕ) (v : ℕ) : Type 0 where
  pub within : first_same numbers v < length numbers
  pub stands : (d : ℕ) → slice_index_or numbers (first_same numbers v) d ≡ v

pub index_is : (xs : List ℕ) (i x d : ℕ) → slice_get xs i ≡ Some x → slice_index_or xs i d ≡ x
index_is [] i x d is = absurd (cc)
index_is (y ∷ xs) zero x d is = cc
index_is (y ∷ xs) (suc i) x d is = index_is xs i x d is

pub first_is : (numbers : List ℕ) (i v : ℕ) → slice_get numbers i ≡ Some v → IsFirst numbers v
first_is numbers i v is =
    let found = position_there (λ n. n == v) numbers i v is (eqb_self v) in
    let at = position_is (λ n. n == v) numbers found.0 found.1 in
    let place : found.0 ≡ first_same numbers v = sym (ap (λ (o : Option ℕ). unwrap_or o 0) found.1) in
    record {
      within = subst (λ (k : ℕ). k < length numbers) place at.within;
      stands = λ d. ap (λ (k : ℕ). slice_index_or numbers k d) (sym place) ∙ index_is numbers found.0 at.element d at.there ∙ eqb-true at.element v at.passes;
    }
