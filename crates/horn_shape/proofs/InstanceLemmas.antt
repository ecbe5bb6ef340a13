-- An assertion and its instances: where values stand, and what is true of atoms and heads at them.
use Rattle.std.proofs.Common.{◌≡◌, ℕ, zero, suc, ◌+◌, ◌<◌, List, [], ◌∷◌, length, true, false, ◌&&◌, refl, ap, ◌∙◌, subst, arith, map}
use Rattle.std.specs.Prelude.{slice_get, slice_index_or, Option, Some, None, option_map}
use Rattle.std.specs.List.{list_all, AllByRecursion}
use Rattle.term_tree.specs.declared.node.Node.{Node}
use Rattle.term_tree.specs.declared.scalar.Value.{Value}
use Rattle.term_tree.specs.declared.scalar.Value.TheVariants.{Bool as Truth}
use Rattle.term_tree.specs.declared.script.Assertion.{Assertion}
use Rattle.term_tree.specs.Legal.{is_there}
use Rattle.term_tree.specs.Operators.{truth}
use Rattle.term_tree.specs.Truth.{Interpretation}
use Rattle.term_tree.specs.Value.{Environment, environment_of}
use Rattle.horn_shape.specs.declared.clause.AtomUse.{AtomUse}
use Rattle.horn_shape.specs.Breaking.{IsTrueAtom, IsTrueHead}
use Rattle.horn_shape.specs.Instance.{ground}
use Rattle.horn_shape.specs.Content.{is_true_atom, HeadHolds, StandAt}

pub there_number : (x : Option ℕ) → is_there x ≡ true → (m : ℕ) × (x ≡ Some m)
there_number None h = absurd (cc)
there_number (Some m) h = (m, refl)

stand_from : (E : Environment) (n : ℕ) (vs : List Value) → ((j k : ℕ) → k ≡ n + j → j < length vs → E k ≡ slice_index_or vs j (Truth false)) → StandAt E n vs
stand_from E n [] h = tt
stand_from E n (v ∷ vs) h = (h 0 n (omega arith) (omega arith), stand_from E (suc n) vs (λ j k e less. h (suc j) k (omega (arith, e)) (omega (arith, less))))

pub stand_all : (vs : List Value) → StandAt (environment_of vs) 0 vs
stand_all vs = stand_from (environment_of vs) 0 vs (λ j k e less. ap (λ (i : ℕ). slice_index_or vs i (Truth false)) (same j k e))
  where
    same : (j k : ℕ) → k ≡ 0 + j → k ≡ j
    same j k e = omega (arith, e)

pub atoms_true : (I : Interpretation) (nodes : List Node) (E : Environment) (atoms : List AtomUse) → AllByRecursion (IsTrueAtom I) (map (ground nodes E) atoms)
    → list_all (is_true_atom I nodes E) atoms ≡ true
atoms_true I nodes E [] h = refl
atoms_true I nodes E (a ∷ atoms) h =
    ap (λ (v : Value). truth v && list_all (is_true_atom I nodes E) atoms) h.0 ∙ atoms_true I nodes E atoms h.1

pub head_true : (I : Interpretation) (nodes : List Node) (E : Environment) (head : Option AtomUse) → HeadHolds I nodes E head → IsTrueHead I (option_map (ground nodes E) head)
head_true I nodes E None h = h
head_true I nodes E (Some a) h = h

pub same_assertion : (a b : Assertion) (x : Option Assertion) → x ≡ Some a → x ≡ Some b → a ≡ b
same_assertion a b x h k = cc

pub all_get : {X : Type 0} (P : X → Type 0) (xs : List X) (i : ℕ) (x : X) → AllByRecursion P xs → slice_get xs i ≡ Some x → P x
all_get P [] i x all h = absurd (cc)
all_get {X} P (y ∷ xs) zero x all h = subst P (some_is y x h) all.0
  where
    some_is : (a b : X) → Some a ≡ Some b → a ≡ b
    some_is a b e = cc
all_get P (y ∷ xs) (suc i) x all h = all_get P xs i x all.1 h
