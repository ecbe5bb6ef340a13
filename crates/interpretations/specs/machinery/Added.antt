-- What a call has put behind the nodes of an arena. A term stays one whatever is put behind it.
use Rattle.std.specs.Prelude.{◌≡◌, ℕ, ◌<◌, ◌≤◌, ℤ, List, [], ◌∷◌, ◌++◌, length, Some, true}
use Rattle.std.specs.List.{list_all}
use Rattle.term_tree.specs.declared.node.TermId.{TermId}
use Rattle.term_tree.specs.declared.node.OpKind.TheVariants.{Mul}
use Rattle.term_tree.specs.declared.node.Node.{Node}
use Rattle.term_tree.specs.declared.node.Node.TheVariants.{Op}
use Rattle.term_tree.specs.declared.sort.Sort.{Sort}
use Rattle.term_tree.specs.Arena.{is_below}
use Rattle.answer_text.specs.Lemmas.{IsArgument, IsNode, IsNumber}

-- the old nodes, and at most the given number more
pub record IsGrown (most : ℕ) (old new : List Node) : Type 0 where
  pub more : List Node
  pub are : new ≡ old ++ more
  pub few : length more ≤ most

-- the old nodes, and at most the given number more, among which a term of this kind now stands
pub record IsAdded (Kind : List Node → TermId → Type 0) (most : ℕ) (old new : List Node) (id : TermId) : Type 0 where
  pub grown : IsGrown most old new
  pub there : id.0 < length new
  pub is : (later : List Node) → Kind (new ++ later) id

-- the same of terms in order
pub record AreAdded (Kind : List Node → List TermId → Type 0) (most : ℕ) (old new : List Node) (ids : List TermId) : Type 0 where
  pub grown : IsGrown most old new
  pub there : list_all (is_below (length new)) ids ≡ true
  pub are : (later : List Node) → Kind (new ++ later) ids

-- a number times the argument of that number
abbrev pub IsScaled : List Node → ℕ → Sort → ℤ → TermId → Type 0
IsScaled nodes binder sort coefficient id =
    (k : TermId) × (x : TermId) × IsNumber nodes coefficient k × IsArgument nodes binder (Some sort) x × IsNode nodes id (Op Mul (k ∷ x ∷ []))
