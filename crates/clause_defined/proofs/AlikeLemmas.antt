-- Under classes of the arguments the same term of a definition is the first without room.
use Rattle.std.proofs.Common.{◌≡◌, ℕ, zero, suc, ◌+◌, ◌-◌, ◌<◌, ◌==◌, List, [], ◌∷◌, length, map, Bool, true, false, refl, ap, sym, ◌∙◌, subst, arith}
use Rattle.std.proofs.lemmas.Bool.Decides.{nat_tests}
use Rattle.std.proofs.lemmas.List.{length-map}
use Rattle.std.proofs.lemmas.Option.{slice_get_within}
use Rattle.std.specs.Prelude.{slice_get, slice_index_or, position, Option, Some, None, option_map, nat_lt, if◌then◌else◌}
use Rattle.std.specs.List.{AllByRecursion}
use Rattle.term_tree.specs.declared.sort.Sort.{Sort}
use Rattle.term_tree.specs.declared.definition.Definition.{Definition}
use Rattle.term_tree.specs.Solution.{IsFormula}
use Rattle.linear_terms.specs.Width.{first_wide}
use Rattle.term_widths.specs.machinery.Apart.{AreOwnBelow, IsRenaming, Occurs, placed_naming}
use Rattle.term_widths.proofs.RenamingLemmas.{alike_judge}
use Rattle.lin_atoms.specs.Algebra.{name_in}
use Rattle.clause_laws.specs.Defined.{definition_places, naming_at}
use Rattle.clause_laws.proofs.DefinitionLemmas.{body_there, parameter_there}
use Rattle.clause_defined.specs.machinery.Classes.{HaveClasses, first_same}
use Rattle.clause_defined.proofs.ClassLemmas.{first_is}

pub there_is_one : (xs : List ℕ) (i d : ℕ) → i < length xs → slice_get xs i ≡ Some (slice_index_or xs i d)
there_is_one [] i d less = absurd (omega (arith, less))
there_is_one (x ∷ xs) zero d less = refl
there_is_one (x ∷ xs) (suc i) d less = there_is_one xs i d (omega (arith, less))

mapped_one : (f : ℕ → ℕ) (xs : List ℕ) (i x d : ℕ) → slice_get xs i ≡ Some x → slice_index_or (map f xs) i d ≡ f x
mapped_one f [] i x d is = absurd (cc)
mapped_one f (y ∷ xs) zero x d is = let same : y ≡ x = cc in ap f same
mapped_one f (y ∷ xs) (suc i) x d is = mapped_one f xs i x d is

pub all_one : (P : ℕ → Type 0) (xs : List ℕ) (i x : ℕ) → AllByRecursion P xs → slice_get xs i ≡ Some x → P x
all_one P [] i x all is = absurd (cc)
all_one P (y ∷ xs) zero x all is = let same : y ≡ x = cc in subst P same all.0
all_one P (y ∷ xs) (suc i) x all is = all_one P xs i x all.1 is

is_low : (a b : ℕ) → a < b → nat_lt a b ≡ true
is_low a b h = grind (arith, nat_tests)

is_past : (a b : ℕ) → nat_lt (a + b) a ≡ false
is_past a b = grind (arith, nat_tests)

-- the variables below one number go to those below another, and the later ones after them
abbrev moved : (ℕ → ℕ) → ℕ → ℕ → ℕ → ℕ
moved f from to v = if nat_lt v from then f v else to + (v - from)

moved_low : (f : ℕ → ℕ) (from to v : ℕ) → v < from → moved f from to v ≡ f v
moved_low f from to v less = ap (λ (b : Bool). if b then f v else to + (v - from)) (is_low v from less)

moved_past : (f : ℕ → ℕ) (from to i : ℕ) → moved f from to (from + i) ≡ to + i
moved_past f from to i =
    ap (λ (b : Bool). if b then f (from + i) else to + ((from + i) - from)) (is_past from i) ∙ (let e : to + ((from + i) - from) ≡ to + i = omega arith in e)

moved_all : (f : ℕ → ℕ) (from to : ℕ) (o : Option ℕ) → option_map (λ i. to + i) o ≡ option_map (moved f from to) (option_map (λ i. from + i) o)
moved_all f from to None = refl
moved_all f from to (Some i) = ap (λ (k : ℕ). Some k) (sym (moved_past f from to i))

module _ (d : Definition) (sorts : List Sort) (is : IsFormula sorts d.terms.nodes d.body.0) (args : List ℕ) (first : ℕ) (classes : List ℕ) (have : HaveClasses args first classes)
    (count : length sorts ≡ length classes) where
  long : length classes ≡ length args
  long = ap length have.are ∙ length-map args (first_same args)

  -- an argument of a variable that occurs
  argument : (binder : ℕ) → Occurs d.terms.nodes d.body.0 binder → binder < length args
  argument binder occurs =
      let within : binder < length sorts = slice_get_within sorts binder occurs.sort (parameter_there d sorts is occurs.id binder occurs.sort occurs.below occurs.is) in
      let l = long in
      omega (arith, within, count, l)

  given : (binder : ℕ) → binder < length args → slice_get args binder ≡ Some (name_in args binder)
  given binder less = there_is_one args binder binder less

  class_is : (binder : ℕ) → binder < length args → name_in classes binder ≡ first_same args (name_in args binder)
  class_is binder less = ap (λ (xs : List ℕ). slice_index_or xs binder binder) have.are ∙ mapped_one (first_same args) args binder (name_in args binder) binder (given binder less)

  class_low : (binder : ℕ) → binder < length args → name_in classes binder < length args
  class_low binder less = subst (λ (k : ℕ). k < length args) (sym (class_is binder less)) (first_is args binder (name_in args binder) (given binder less)).within

  pub classes_below : AreOwnBelow d.terms.nodes d.body.0 classes (length args)
  classes_below binder occurs = class_low binder (argument binder occurs)

  abbrev there : ℕ → ℕ
  there v = moved (first_same args) first (length args) v

  abbrev back : ℕ → ℕ
  back v = moved (λ w. slice_index_or args w w) (length args) first v

  forth_is : IsRenaming d.terms.nodes d.body.0 there (naming_at d args first) (placed_naming classes (length args) (definition_places d))
  forth_is = record {
    own = λ binder occurs.
        let less = argument binder occurs in
        let low : name_in args binder < first = all_one (λ v. v < first) args binder (name_in args binder) have.below (given binder less) in
        class_is binder less ∙ sym (moved_low (first_same args) first (length args) (name_in args binder) low);
    auxiliary = λ id. moved_all (first_same args) first (length args) (position (λ p. p == id) (definition_places d));
  }

  back_is : IsRenaming d.terms.nodes d.body.0 back (placed_naming classes (length args) (definition_places d)) (naming_at d args first)
  back_is = record {
    own = λ binder occurs.
        let less = argument binder occurs in
        let stands = first_is args binder (name_in args binder) (given binder less) in
        sym (moved_low (λ w. slice_index_or args w w) (length args) first (name_in classes binder) (class_low binder less)
        ∙ ap (λ (k : ℕ). slice_index_or args k k) (class_is binder less) ∙ stands.stands (first_same args (name_in args binder)));
    auxiliary = λ id. moved_all (λ w. slice_index_or args w w) (length args) first (position (λ p. p == id) (definition_places d));
  }

  -- so their first terms without room are one
  pub classes_judge : first_wide (naming_at d args first) d.terms.nodes d.body.0 ≡ first_wide (placed_naming classes (length args) (definition_places d)) d.terms.nodes d.body.0
  classes_judge =
      alike_judge d.terms.nodes d.body.0 (naming_at d args first) (placed_naming classes (length args) (definition_places d)) is.arena
      (record { there = there; back = back; there_is = forth_is; back_is = back_is }) (body_there d sorts is)
