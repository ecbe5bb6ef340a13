-- Integers stand for the values whose numbers they are, and the first ones alone are read.
use Rattle.std.proofs.Common.{◌≡◌, List, [], ◌∷◌, length, take, true, false, refl, ap}
use Rattle.std.specs.Prelude.{ℤ}
use Rattle.term_tree.specs.declared.sort.Sort.{Sort}
use Rattle.term_tree.specs.declared.sort.Sort.TheVariants.{Int as IntSort, Bool as BoolSort}
use Rattle.term_tree.specs.declared.scalar.Value.{Value}
use Rattle.term_tree.specs.declared.scalar.Value.TheVariants.{Int, Bool as Truth}
use Rattle.term_tree.specs.Truth.{HaveSorts, as_value, as_values}
use Rattle.clause_laws.specs.Point.{numbers}

pub values_back : (sorts : List Sort) (values : List Value) → HaveSorts sorts values → as_values sorts (numbers values) ≡ values
values_back [] [] have = refl
values_back [] (v ∷ values) have = absurd have
values_back (s ∷ sorts) [] have = absurd have
values_back (IntSort ∷ sorts) (Int n ∷ values) have = ap (λ (vs : List Value). Int n ∷ vs) (values_back sorts values have.1)
values_back (IntSort ∷ sorts) (Truth b ∷ values) have = absurd have.0
values_back (BoolSort ∷ sorts) (Int n ∷ values) have = absurd have.0
values_back (BoolSort ∷ sorts) (Truth true ∷ values) have = ap (λ (vs : List Value). Truth true ∷ vs) (values_back sorts values have.1)
values_back (BoolSort ∷ sorts) (Truth false ∷ values) have = ap (λ (vs : List Value). Truth false ∷ vs) (values_back sorts values have.1)

pub values_front : (sorts : List Sort) (point : List ℤ) → as_values sorts point ≡ as_values sorts (take (length sorts) point)
values_front [] point = refl
values_front (s ∷ sorts) [] = refl
values_front (s ∷ sorts) (n ∷ point) = ap (λ (vs : List Value). as_value s n ∷ vs) (values_front sorts point)
