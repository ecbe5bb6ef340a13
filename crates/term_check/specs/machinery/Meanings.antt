-- Bound names as a stack of bindings, and as a map from names.
use Rattle.std.specs.Prelude.{◌≡◌, ℕ, List, [], ◌∷◌, ◌++◌, Option, None, Some}
use Rattle.std.specs.Map.{lookup}
use Rattle.std.specs.Str.{bytes_eq}
use Rattle.keyed_hash.specs.declared.name.NameKey.{NameKey}
use Rattle.term_check.specs.declared.scope.Bound.{Bound}
use Rattle.term_check.specs.declared.scope.Named.{Named}
use Rattle.term_check.specs.declared.scope.Binding.{Binding}
use Rattle.term_check.specs.declared.scope.Meaning.{Meaning}
use Rattle.term_check.specs.Spelling.{bound_to}

abbrev pub named : List ℕ → Bound → Named
named name bound = record { name = record { bytes = name }; bound = bound }

abbrev pub named_by : Binding → Named
named_by b = named b.name.now b.bound

abbrev pub named_as : Meaning → Named
named_as m = named m.name.now m.bound

-- each binding keeps what its name stands for outside of it, below these names
abbrev pub AreKept : List Named → List Binding → Type 0
AreKept outer [] = Unit {0}
AreKept outer (b ∷ bs) = (b.outside ≡ bound_to b.name.now outer) × AreKept (outer ++ named_by b ∷ []) bs

abbrev pub joined : {A : Type 0} → Option (Option A) → Option A
joined None = None
joined (Some o) = o

-- what a map has for the name; a name whose binders were left stays there, and stands for nothing
abbrev pub meaning : List ℕ → List (NameKey × Option Bound) → Option Bound
meaning name entries = joined (lookup (λ key. bytes_eq name key.bytes.now) entries)

-- the map has for each name what the innermost of that name stands for
abbrev pub AreMeanings : List (NameKey × Option Bound) → List Named → Type 0
AreMeanings entries names = (name : List ℕ) → meaning name entries ≡ bound_to name names
