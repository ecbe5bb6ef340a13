-- A term's linear form, or the first of its subterms that is wide, as the code finds them.
use Rattle.std.specs.Prelude.{◌≡◌, ℕ, List, [], ◌∷◌, ◌++◌, map, Option, Some, Result, Ok, Err, Bool, true, false, ℤ, if◌then◌else◌}
use Rattle.std.specs.Ordering.{nat_cmp}
use Rattle.std.specs.BTreeMap.{BTreeMap, get}
use Rattle.term_tree.specs.declared.node.TermId.{TermId}
use Rattle.term_tree.specs.declared.node.Node.{Node}
use Rattle.term_tree.specs.declared.node.Node.TheVariants.{Num, True, False, Var, LetVar, Op, Let}
use Rattle.term_tree.specs.Fold.{told_of}
use Rattle.lin_atoms.specs.Linear.{Linear, of_constant}
use Rattle.linear_terms.specs.Linear.{Naming, auxiliary_form, is_narrow, operation_form, variable_form, zero_form}
use Rattle.linear_terms.specs.Width.{text_parts}
use Rattle.term_forms.specs.declared.stop.FormStop.{FormStop}
use Rattle.term_forms.specs.declared.stop.FormStop.TheVariants.{Memory, Wide}

abbrev pub and_then : {A B : Type 0} → Result A ℕ → (A → Result B ℕ) → Result B ℕ
and_then (Ok a) f = f a
and_then (Err at) f = Err at

-- the forms of these parts behind others, or the first wide term in them
abbrev pub each : (ℕ → ℕ → Result Linear ℕ) → List Linear → List TermId → Result (List Linear) ℕ
each part before [] = Ok before
each part before (id ∷ ids) = and_then (part id.0 id.0) (λ form. each part (before ++ form ∷ []) ids)

abbrev pub judged : ℕ → Linear → Result Linear ℕ
judged own form = if is_narrow form then Ok form else Err own

abbrev pub last_form : List Linear → Linear
last_form [] = zero_form
last_form (form ∷ []) = form
last_form (form ∷ next ∷ forms) = last_form (next ∷ forms)

-- the node has no parts
abbrev pub is_leaf : Node → Bool
is_leaf (Num n) = true
is_leaf True = true
is_leaf False = true
is_leaf (Var binder sort) = true
is_leaf _ = false

-- the form of a node over those of its parts
abbrev pub formed : (ℕ → Option ℤ) → Naming → Node → ℕ → List Linear → Linear
formed constant naming (Num n) own forms = of_constant n
formed constant naming (Var binder sort) own forms = variable_form (naming.own binder)
formed constant naming (LetVar bound) own forms = last_form forms
formed constant naming (Op op args) own forms = operation_form op (auxiliary_form (naming.auxiliary own)) (map (λ arg. constant arg.0) args) forms
formed constant naming (Let bound body) own forms = last_form forms
formed constant naming _ own forms = zero_form

abbrev pub node_reading : (ℕ → Option ℤ) → Naming → (ℕ → ℕ → Result Linear ℕ) → Node → ℕ → Result Linear ℕ
node_reading constant naming part node own = and_then (each part [] (text_parts node)) (λ forms. judged own (formed constant naming node own forms))

abbrev pub told_reading : (ℕ → Option ℤ) → Naming → List Node → ℕ → ℕ → Result Linear ℕ
told_reading constant naming = told_of (λ own. Ok zero_form) (node_reading constant naming)

abbrev pub reading : (ℕ → Option ℤ) → Naming → List Node → ℕ → Result Linear ℕ
reading constant naming nodes id = told_reading constant naming nodes id id

-- the answer is what was found, but for want of memory
abbrev pub TellsAll : Result (List Linear) ℕ → Result (List Linear) FormStop → Type 0
TellsAll found (Ok forms) = found ≡ Ok forms
TellsAll found (Err Memory) = Unit {0}
TellsAll found (Err (Wide term)) = found ≡ Err term.0

-- each form that is kept is that of its term
abbrev pub AreRead : (ℕ → Option ℤ) → Naming → List Node → BTreeMap ℕ Linear → Type 0
AreRead constant naming nodes known = (q : ℕ) (form : Linear) → get nat_cmp known q ≡ Some form → reading constant naming nodes q ≡ Ok form
