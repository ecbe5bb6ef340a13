-- What is read of a term is its linear form, or the first of its subterms that is wide.
use Rattle.std.proofs.Common.{◌≡◌, ℕ, zero, suc, ◌+◌, ◌<◌, ◌≤◌, List, [], ◌∷◌, ◌++◌, length, map, Bool, true, false, inl, inr, refl, ap, sym, ◌∙◌, arith, append_assoc}
use Rattle.std.specs.Prelude.{slice_get, Option, Some, None, Result, Ok, Err, OnOk, ℤ, nat_lt, not, if◌then◌else◌}
use Rattle.std.specs.List.{list_all}
use Rattle.std.proofs.lemmas.Bool.{cases_lt}
use Rattle.std.specs.Ordering.{nat_cmp}
use Rattle.std.specs.BTreeMap.{BTreeMap, get, is_at}
use Rattle.std.specs.Map.{lookup}
use Rattle.term_tree.specs.declared.node.TermId.{TermId}
use Rattle.term_tree.specs.declared.node.Node.{Node}
use Rattle.term_tree.specs.declared.node.Node.TheVariants.{Num, True, False, Var, LetVar, Pred, Op, Divisible, Let, Forall, Exists}
use Rattle.term_tree.specs.Arena.{IsArena, is_below, has_parts_below}
use Rattle.term_tree.proofs.Public.{arena_below, below_from, both_true, there_is, told_at_each, told_past}
use Rattle.lin_atoms.specs.Linear.{Linear}
use Rattle.linear_terms.specs.Linear.{Naming, is_narrow, node_linear, told_linear, zero_form}
use Rattle.linear_terms.specs.Width.{first_among, first_of_two, first_where, node_first, text_parts}
use Rattle.linear_terms.proofs.PartLemmas.{linear_at}
use Rattle.term_forms.specs.Found.{AreFound, form_by, form_or_wide, is_wide, unless_wide}
use Rattle.term_forms.specs.machinery.Reading.{AreRead, and_then, each, formed, judged, last_form, node_reading, reading, told_reading}
use Rattle.term_forms.proofs.ReadingLemmas.{all_below, reading_at}

among_rest : (p q : ℕ → Option ℕ) (n : ℕ) (ids : List TermId) → ((c : ℕ) → c < n → p c ≡ q c) → list_all (is_below n) ids ≡ true → first_among p ids ≡ first_among q ids
among_rest p q n [] same below = refl
among_rest p q n (id ∷ ids) same below =
    let both = both_true (nat_lt id.0 n) (list_all (is_below n) ids) below in
    ap (λ (o : Option ℕ). first_of_two o (first_among p ids)) (same id.0 (below_from id.0 n both.0)) ∙ ap (first_of_two (q id.0)) (among_rest p q n ids same both.1)

firsts_rest : (test : ℕ → Bool) (p q : ℕ → ℕ → Option ℕ) (n : ℕ) (node : Node) (own : ℕ) → ((c : ℕ) → c < n → (a : ℕ) → p c a ≡ q c a) → has_parts_below n node ≡ true
    → node_first test p node own ≡ node_first test q node own
firsts_rest test p q n node own same below =
    ap (λ (o : Option ℕ). first_of_two o (if test own then Some own else None))
    (among_rest (λ id. p id id) (λ id. q id id) n (text_parts node) (λ c lt. same c lt c) (all_below n node below))

-- the first term that a test finds, by the node
pub first_at : (test : ℕ → Bool) (nodes : List Node) (id : ℕ) (node : Node) → slice_get nodes id ≡ Some node → has_parts_below id node ≡ true
    → first_where test nodes id ≡ first_of_two (first_among (first_where test nodes) (text_parts node)) (if test id then Some id else None)
first_at test nodes id node is below = told_at_each ℕ (Option ℕ) (λ own. None) (node_first test) (firsts_rest test) nodes id node id is below

last_of : (forms : List Linear) (form : Linear) → last_form (forms ++ form ∷ []) ≡ form
last_of [] form = refl
last_of (f ∷ []) form = refl
last_of (f ∷ g ∷ forms) form = last_of (g ∷ forms) form

map_last : (f : TermId → Linear) (ids : List TermId) (id : TermId) → map f (ids ++ id ∷ []) ≡ map f ids ++ f id ∷ []
map_last f [] id = refl
map_last f (i ∷ ids) id = ap (λ (xs : List Linear). f i ∷ xs) (map_last f ids id)

-- the form of a node over the forms of its parts is its linear form
formed_is : (constant : ℕ → Option ℤ) (naming : Naming) (part : ℕ → ℕ → Linear) (node : Node) (own : ℕ)
    → formed constant naming node own (map (λ (p : TermId). part p.0 p.0) (text_parts node)) ≡ node_linear constant naming part node own
formed_is constant naming part (Num n) own = refl
formed_is constant naming part True own = refl
formed_is constant naming part False own = refl
formed_is constant naming part (Var binder sort) own = refl
formed_is constant naming part (LetVar bound) own = refl
formed_is constant naming part (Pred pred args) own = refl
formed_is constant naming part (Op op args) own = refl
formed_is constant naming part (Divisible by arg) own = refl
formed_is constant naming part (Let bound body) own =
    ap last_form (map_last (λ (p : TermId). part p.0 p.0) bound body) ∙ last_of (map (λ (p : TermId). part p.0 p.0) bound) (part body.0 body.0)
formed_is constant naming part (Forall first sorts body) own = refl
formed_is constant naming part (Exists first sorts body) own = refl

abbrev forms_of : (ℕ → Option ℤ) → Naming → List Node → List TermId → List Linear
forms_of constant naming nodes ids = map (λ (p : TermId). form_by constant naming nodes p.0) ids

abbrev first_of : (ℕ → Option ℤ) → Naming → List Node → ℕ → Option ℕ
first_of constant naming nodes id = first_where (is_wide constant naming nodes) nodes id

append_none : (xs : List Linear) → xs ++ [] ≡ xs
append_none [] = refl
append_none (x ∷ xs) = ap (λ (ys : List Linear). x ∷ ys) (append_none xs)

next_read : (constant : ℕ → Option ℤ) (naming : Naming) (nodes : List Node) (before : List Linear) (form : Linear) (ids : List TermId) (o : Option ℕ)
    → each (told_reading constant naming nodes) (before ++ form ∷ []) ids ≡ unless_wide (first_among (first_of constant naming nodes) ids) ((before ++ form ∷ []) ++ forms_of constant naming nodes ids)
    → and_then (unless_wide o form) (λ f. each (told_reading constant naming nodes) (before ++ f ∷ []) ids)
    ≡ unless_wide (first_of_two o (first_among (first_of constant naming nodes) ids)) (before ++ form ∷ forms_of constant naming nodes ids)
next_read constant naming nodes before form ids None rest =
    rest ∙ ap (λ (fs : List Linear). unless_wide (first_among (first_of constant naming nodes) ids) fs) (append_assoc before (form ∷ []) (forms_of constant naming nodes ids))
next_read constant naming nodes before form ids (Some at) rest = refl

-- what is read of parts, where it is known of each
parts_read : (constant : ℕ → Option ℤ) (naming : Naming) (nodes : List Node) (n : ℕ) → ((id : ℕ) → id < n → reading constant naming nodes id ≡ form_or_wide constant naming nodes id)
    → (before : List Linear) (ids : List TermId) → list_all (is_below n) ids ≡ true
    → each (told_reading constant naming nodes) before ids ≡ unless_wide (first_among (first_of constant naming nodes) ids) (before ++ forms_of constant naming nodes ids)
parts_read constant naming nodes n found before [] below = ap (λ (fs : List Linear). Ok fs) (sym (append_none before))
parts_read constant naming nodes n found before (id ∷ ids) below =
    let both = both_true (nat_lt id.0 n) (list_all (is_below n) ids) below in
    ap (λ (r : Result Linear ℕ). and_then r (λ f. each (told_reading constant naming nodes) (before ++ f ∷ []) ids)) (found id.0 (below_from id.0 n both.0))
    ∙ next_read constant naming nodes before (form_by constant naming nodes id.0) ids (first_of constant naming nodes id.0)
    (parts_read constant naming nodes n found (before ++ form_by constant naming nodes id.0 ∷ []) ids both.1)

judged_is : (own : ℕ) (form : Linear) (b : Bool) → (if b then Ok form else Err own) ≡ unless_wide (if not b then Some own else None) form
judged_is own form true = refl
judged_is own form false = refl

node_read : (own : ℕ) (form made : Linear) (forms : List Linear) (make : List Linear → Linear) (o : Option ℕ) → make forms ≡ made → made ≡ form
    → and_then (unless_wide o forms) (λ fs. judged own (make fs)) ≡ unless_wide (first_of_two o (if not (is_narrow form) then Some own else None)) form
node_read own form made forms make None e f = ap (judged own) (e ∙ f) ∙ judged_is own form (is_narrow form)
node_read own form made forms make (Some at) e f = refl

-- what is read of a term is what is found of it
pub read_is : (constant : ℕ → Option ℤ) (naming : Naming) (nodes : List Node) → IsArena nodes → (n id : ℕ) → id < n → id < length nodes → reading constant naming nodes id ≡ form_or_wide constant naming nodes id
read_is constant naming nodes arena zero id h within = absurd (omega arith)
read_is constant naming nodes arena (suc n) id h within =
    let found = there_is nodes id within in
    let node : Node = found.0 in
    let is : slice_get nodes id ≡ Some node = found.1 in
    let below : has_parts_below id node ≡ true = arena_below nodes id node arena is in
    let earlier : (c : ℕ) → c < id → reading constant naming nodes c ≡ form_or_wide constant naming nodes c = λ c less. read_is constant naming nodes arena n c (omega arith) (omega arith) in
    reading_at constant naming nodes id node is below
    ∙ ap (λ (r : Result (List Linear) ℕ). and_then r (λ forms. judged id (formed constant naming node id forms))) (parts_read constant naming nodes id earlier [] (text_parts node) (all_below id node below))
    ∙ node_read id (form_by constant naming nodes id) (node_linear constant naming (told_linear constant naming nodes) node id) (forms_of constant naming nodes (text_parts node))
    (formed constant naming node id) (first_among (first_of constant naming nodes) (text_parts node)) (formed_is constant naming (told_linear constant naming nodes) node id)
    (sym (linear_at constant naming nodes id id node is below))
    ∙ ap (λ (o : Option ℕ). unless_wide o (form_by constant naming nodes id)) (sym (first_at (is_wide constant naming nodes) nodes id node is below))

-- there is nothing past the last term
past_same : (constant : ℕ → Option ℤ) (naming : Naming) (nodes : List Node) (id : ℕ) → length nodes ≤ id → reading constant naming nodes id ≡ form_or_wide constant naming nodes id
past_same constant naming nodes id past =
    let none = told_past (ℕ → Option ℕ) (λ own. None) (node_first (is_wide constant naming nodes)) nodes id past in
    let zero_past = told_past (ℕ → Linear) (λ own. zero_form) (node_linear constant naming) nodes id past in
    ap (λ (f : ℕ → Result Linear ℕ). f id) (told_past (ℕ → Result Linear ℕ) (λ own. Ok zero_form) (node_reading constant naming) nodes id past)
    ∙ ap (λ (f : ℕ → Linear). unless_wide None (f id)) (sym zero_past)
    ∙ ap (λ (f : ℕ → Option ℕ). unless_wide (f id) (form_by constant naming nodes id)) (sym none)

pub found_is : (constant : ℕ → Option ℤ) (naming : Naming) (nodes : List Node) → IsArena nodes → (id : ℕ) → reading constant naming nodes id ≡ form_or_wide constant naming nodes id
found_is constant naming nodes arena id = elim (cases_lt id (length nodes)) [
  | inl within ↦ read_is constant naming nodes arena (id + 1) id (omega arith) within
  | inr past ↦ past_same constant naming nodes id past
]

pub to_read : (constant : ℕ → Option ℤ) (naming : Naming) (nodes : List Node) (known : BTreeMap ℕ Linear) → IsArena nodes → AreFound constant naming nodes known → AreRead constant naming nodes known
to_read constant naming nodes known arena are q form has = found_is constant naming nodes arena q ∙ are q form has

pub from_read : (constant : ℕ → Option ℤ) (naming : Naming) (nodes : List Node) (known : BTreeMap ℕ Linear) → IsArena nodes → AreRead constant naming nodes known → AreFound constant naming nodes known
from_read constant naming nodes known arena are q form has = sym (found_is constant naming nodes arena q) ∙ are q form has

pub on_ok : {A E : Type 0} (r : Result A E) (P Q : Type 0) → (P → Q) → OnOk r P → OnOk r Q
on_ok (Ok a) P Q f h = f h
on_ok (Err e) P Q f h = h

-- nothing is kept yet
pub none_found : (constant : ℕ → Option ℤ) (naming : Naming) (nodes : List Node) (known : BTreeMap ℕ Linear) → known.entries ≡ [] → AreFound constant naming nodes known
none_found constant naming nodes known empty q form has =
    let none : get nat_cmp known q ≡ None = ap (λ (es : List (ℕ × Linear)). lookup (is_at (nat_cmp q)) es) empty in absurd (cc)
