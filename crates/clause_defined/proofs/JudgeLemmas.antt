-- What is judged of a definition under classes of arguments is what the rule says at the arguments.
use Rattle.std.proofs.Common.{◌≡◌, ◌≤◌, ◌+◌, ◌++◌, ℕ, List, length, map, Bool, refl, ap, sym, ◌∙◌, subst, arith, append-nil}
use Rattle.std.proofs.lemmas.List.{length-map}
use Rattle.std.specs.Prelude.{slice_index_or, Option, Some, None, option_map}
use Rattle.term_tree.specs.declared.definition.Definition.{Definition}
use Rattle.term_tree.specs.declared.node.Node.{Node}
use Rattle.horn_shape.specs.declared.clause.AtomUse.{AtomUse}
use Rattle.linear_terms.specs.Linear.{Naming}
use Rattle.linear_terms.specs.Width.{first_wide}
use Rattle.lin_atoms.specs.declared.form.Form.{Form}
use Rattle.clause_form.specs.System.{most_variables}
use Rattle.clause_form.specs.declared.atom.Atom.{Atom}
use Rattle.clause_normal.specs.Normal.{normal_atom}
use Rattle.clause_normal.specs.machinery.Making.{HasFirst}
use Rattle.clause_laws.specs.Defined.{count_of, defined_forms, definition_forms, definition_places, definition_wide, naming_at}
use Rattle.clause_defined.specs.machinery.Classes.{HaveClasses, class_in}
use Rattle.clause_defined.specs.machinery.Uses.{IsAtVariables, IsDefinedFor, IsFormulaFor}
use Rattle.clause_defined.proofs.ClassLemmas.{index_is, same_classes}

pub have_classes : (nodes : List Node) (naming : Naming) (next : ℕ) (atom : AtomUse) (classes : List ℕ) → classes ≡ map (class_in nodes atom.args) atom.args → IsAtVariables nodes naming next atom
    → HaveClasses (normal_atom naming nodes atom).args next classes
have_classes nodes naming next atom classes are stand = record { are = are ∙ same_classes nodes naming atom.args stand.apart; below = stand.below }

-- the definition that was found
pub formula_found : (nodes : List Node) (o : Option Definition) (d : Definition) (atom : AtomUse) (classes : List ℕ) → o ≡ Some d → classes ≡ map (class_in nodes atom.args) atom.args
    → IsDefinedFor o (length atom.args) → IsFormulaFor d (length classes)
formula_found nodes o d atom classes is are defined =
    let long : length classes ≡ length atom.args = ap length are ∙ length-map atom.args (class_in nodes atom.args) in
    subst (λ (n : ℕ). IsFormulaFor d n) (sym long) (subst (λ (x : Option Definition). IsDefinedFor x (length atom.args)) is defined)

pub count_found : (o : Option Definition) (d : Definition) (count : ℕ) → o ≡ Some d → count ≡ length (definition_places d) → count ≡ count_of o
count_found o d count is counts = counts ∙ ap count_of (sym is)

pub narrow_found : (o : Option Definition) (d : Definition) (atom : Atom) (next : ℕ) → o ≡ Some d → first_wide (naming_at d atom.args next) d.terms.nodes d.body.0 ≡ None → definition_wide o atom next ≡ None
narrow_found o d atom next is narrow = ap (λ (x : Option Definition). definition_wide x atom next) is ∙ ap (option_map (λ id. slice_index_or d.terms.offsets id 0)) narrow

pub wide_found : (o : Option Definition) (d : Definition) (atom : Atom) (next offset : ℕ) → o ≡ Some d → HasFirst (first_wide (naming_at d atom.args next) d.terms.nodes d.body.0) d.terms.offsets offset
    → definition_wide o atom next ≡ Some offset
wide_found o d atom next offset is first =
    ap (λ (x : Option Definition). definition_wide x atom next) is ∙ ap (option_map (λ id. slice_index_or d.terms.offsets id 0)) first.is
    ∙ ap (λ (k : ℕ). Some k) (index_is d.terms.offsets first.term offset 0 first.start)

pub none_wide : (o : Option Definition) (atom : Atom) (next : ℕ) → o ≡ None → definition_wide o atom next ≡ None
none_wide o atom next is = ap (λ (x : Option Definition). definition_wide x atom next) is

pub none_count : (o : Option Definition) → o ≡ None → 0 ≡ count_of o
none_count o is = ap count_of (sym is)

no_option : (f : ℕ → ℕ) (o : Option ℕ) → option_map f o ≡ None → o ≡ None
no_option f None none = refl
no_option f (Some id) none = absurd (cc)

-- what is known of the definition that is found
pub narrow_given : (o : Option Definition) (d : Definition) (atom : Atom) (next : ℕ) (args : List ℕ) → o ≡ Some d → args ≡ atom.args → definition_wide o atom next ≡ None
    → first_wide (naming_at d args next) d.terms.nodes d.body.0 ≡ None
narrow_given o d atom next args is same narrow =
    ap (λ (xs : List ℕ). first_wide (naming_at d xs next) d.terms.nodes d.body.0) same
    ∙ no_option (λ id. slice_index_or d.terms.offsets id 0) (first_wide (naming_at d atom.args next) d.terms.nodes d.body.0) (ap (λ (x : Option Definition). definition_wide x atom next) (sym is) ∙ narrow)

pub few_given : (o : Option Definition) (d : Definition) (next : ℕ) → o ≡ Some d → next + count_of o ≤ most_variables → next + length (definition_places d) ≤ most_variables
few_given o d next is few = subst (λ (x : Option Definition). next + count_of x ≤ most_variables) is few

-- what is put for it
pub forms_given : (o : Option Definition) (d : Definition) (atom : Atom) (sign : Bool) (next : ℕ) (args : List ℕ) (old new : List Form) → o ≡ Some d → args ≡ atom.args → new ≡ old ++ definition_forms sign d args next
    → new ≡ old ++ defined_forms o atom sign next
forms_given o d atom sign next args old new is same made =
    made ∙ ap (λ (xs : List ℕ). old ++ definition_forms sign d xs next) same ∙ ap (λ (x : Option Definition). old ++ defined_forms x atom sign next) (sym is)

pub next_given : (o : Option Definition) (d : Definition) (next after : ℕ) → o ≡ Some d → after ≡ next + length (definition_places d) → after ≡ next + count_of o
next_given o d next after is counts = counts ∙ ap (λ (x : Option Definition). next + count_of x) (sym is)

pub none_forms : (o : Option Definition) (atom : Atom) (sign : Bool) (next : ℕ) (old : List Form) → o ≡ None → old ≡ old ++ defined_forms o atom sign next
none_forms o atom sign next old is = sym (ap (λ (x : Option Definition). old ++ defined_forms x atom sign next) is ∙ append-nil old)

pub none_next : (o : Option Definition) (next : ℕ) → o ≡ None → next ≡ next + count_of o
none_next o next is = let none = none_count o is in omega (arith, none)
