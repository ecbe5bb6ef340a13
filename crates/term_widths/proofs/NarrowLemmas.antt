-- Terms in which nothing is wide, by their nodes: neither the form itself nor a part is.
use Rattle.std.proofs.Common.{◌≡◌, ℕ, List, [], ◌∷◌, ◌++◌, map, Bool, true, false, not, inl, inr, refl, ap, sym, ◌∙◌}
use Rattle.std.specs.Prelude.{slice_get, Option, Some, None, Result, Ok, Err, IfOk, ℤ, if◌then◌else◌}
use Rattle.std.specs.Ordering.{nat_cmp}
use Rattle.std.specs.BTreeMap.{BTreeMap, get}
use Rattle.std.proofs.lemmas.Bool.{cases_eq}
use Rattle.term_tree.specs.declared.sort.Sort.{Sort}
use Rattle.term_tree.specs.declared.node.TermId.{TermId}
use Rattle.term_tree.specs.declared.node.OpKind.{OpKind}
use Rattle.term_tree.specs.declared.node.OpKind.TheVariants.{Add, Sub, Mul}
use Rattle.term_tree.specs.declared.node.Node.{Node}
use Rattle.term_tree.specs.declared.node.Node.TheVariants.{Num, Var, LetVar, Op, Let}
use Rattle.term_tree.specs.Arena.{has_parts_below}
use Rattle.lin_atoms.specs.Linear.{Linear}
use Rattle.linear_terms.specs.Linear.{Naming, auxiliary_form, is_narrow, node_linear, operation_form, zero_form}
use Rattle.linear_terms.specs.Width.{first_among, first_where, text_parts}
use Rattle.linear_terms.proofs.PartLemmas.{linear_at}
use Rattle.term_forms.specs.Found.{AreFound, form_by, form_or_wide, is_wide, unless_wide}
use Rattle.term_forms.proofs.FoundLemmas.{first_at}
use Rattle.term_widths.specs.machinery.Seen.{IsNarrowTerm, is_sum}
use Rattle.term_widths.proofs.SeekLemmas.{none_first, none_second, parts_narrow}

-- the form of an operation that is a sum doesn't rest on its own variable
sum_alone : (op : OpKind) (unit other : Linear) (constants : List (Option ℤ)) (forms : List Linear) → is_sum op ≡ true → operation_form op unit constants forms ≡ operation_form op other constants forms
sum_alone Add unit other constants forms h = refl
sum_alone Sub unit other constants forms h = refl
sum_alone Mul unit other constants forms h = refl
sum_alone _ unit other constants forms h = absurd (cc)

last_none : (p : ℕ → Option ℕ) (ids : List TermId) (id : TermId) → first_among p (ids ++ id ∷ []) ≡ None → p id.0 ≡ None
last_none p [] id h = none_first (p id.0) None h
last_none p (k ∷ ids) id h = last_none p ids id (none_second (p k.0) (first_among p (ids ++ id ∷ [])) h)

not_wide : (own : ℕ) (b : Bool) → (if not b then Some own else None) ≡ None → b ≡ true
not_wide own true h = refl
not_wide own false h = absurd (cc)

-- an answer that is the one form is the other where these are the same
pub if_same : {E : Type 0} (r : Result Linear E) (a b : Linear) → a ≡ b → IfOk r (λ form. form ≡ a) → IfOk r (λ form. form ≡ b)
if_same (Ok form) a b same h = h ∙ same
if_same (Err e) a b same h = tt

found_form : (found : Option ℕ) (form other : Linear) → found ≡ None → unless_wide found form ≡ Ok other → other ≡ form
found_form None form other none is = let same : form ≡ other = cc in sym same
found_form (Some at) form other none is = absurd (cc)

-- the form of a node that has no numbers is 0
pub other_is : (constant : ℕ → Option ℤ) (naming : Naming) (part : ℕ → ℕ → Linear) (node : Node) (own : ℕ) → ((n : ℤ) → node ≡ Num n → ⊥) → ((binder : ℕ) (sort : Sort) → node ≡ Var binder sort → ⊥)
    → ((bound : TermId) → node ≡ LetVar bound → ⊥) → ((op : OpKind) (args : List TermId) → node ≡ Op op args → ⊥) → ((bound : List TermId) (body : TermId) → node ≡ Let bound body → ⊥)
    → node_linear constant naming part node own ≡ zero_form
other_is constant naming part (Num n) own num var name op bind = absurd (num n refl)
other_is constant naming part (Var binder sort) own num var name op bind = absurd (var binder sort refl)
other_is constant naming part (LetVar bound) own num var name op bind = absurd (name bound refl)
other_is constant naming part (Op kind args) own num var name op bind = absurd (op kind args refl)
other_is constant naming part (Let bound body) own num var name op bind = absurd (bind bound body refl)
other_is constant naming part _ own num var name op bind = refl

module _ (constant : ℕ → Option ℤ) (naming : Naming) (nodes : List Node) where
  -- what is kept of it is its form
  pub kept_is : (known : BTreeMap ℕ Linear) (id : ℕ) (form : Linear) → AreFound constant naming nodes known → IsNarrowTerm constant naming nodes id → get nat_cmp known id ≡ Some form
      → form ≡ form_by constant naming nodes id
  kept_is known id form are narrow has = found_form (first_where (is_wide constant naming nodes) nodes id) (form_by constant naming nodes id) form narrow (are id form has)

  -- one more form is kept
  pub found_more : (old new : BTreeMap ℕ Linear) (id : ℕ) (form : Linear) → AreFound constant naming nodes old → IsNarrowTerm constant naming nodes id → form ≡ form_by constant naming nodes id
      → get nat_cmp new id ≡ Some form → ((q : ℕ) → (id ≡ q → ⊥) → get nat_cmp new q ≡ get nat_cmp old q) → AreFound constant naming nodes new
  found_more old new id form are narrow is here others q other has = elim (cases_eq id q) [
    | inl same ↦
        let e : Some form ≡ Some other = sym here ∙ ap (get nat_cmp new) same ∙ has in
        let f : form ≡ other = cc in
        ap (form_or_wide constant naming nodes) (sym same) ∙ ap (λ (o : Option ℕ). unless_wide o (form_by constant naming nodes id)) narrow ∙ ap (λ (l : Linear). Ok l) (sym is ∙ f)
    | inr differ ↦ are q other (sym (others q differ) ∙ has)
  ]

  module _ (id : ℕ) (node : Node) (there : slice_get nodes id ≡ Some node) (below : has_parts_below id node ≡ true) (narrow : IsNarrowTerm constant naming nodes id) where
    pub own_narrow : is_narrow (form_by constant naming nodes id) ≡ true
    own_narrow =
        not_wide id (is_narrow (form_by constant naming nodes id))
        (none_second (first_among (first_where (is_wide constant naming nodes) nodes) (text_parts node)) (if is_wide constant naming nodes id then Some id else None)
        (sym (first_at (is_wide constant naming nodes) nodes id node there below) ∙ narrow))

  pub name_narrow : (id : ℕ) (bound : TermId) → slice_get nodes id ≡ Some (LetVar bound) → has_parts_below id (LetVar bound) ≡ true → IsNarrowTerm constant naming nodes id → IsNarrowTerm constant naming nodes bound.0
  name_narrow id bound there below narrow = last_none (first_where (is_wide constant naming nodes) nodes) [] bound (parts_narrow constant naming nodes id (LetVar bound) there below narrow)

  pub body_narrow : (id : ℕ) (bound : List TermId) (body : TermId) → slice_get nodes id ≡ Some (Let bound body) → has_parts_below id (Let bound body) ≡ true → IsNarrowTerm constant naming nodes id
      → IsNarrowTerm constant naming nodes body.0
  body_narrow id bound body there below narrow = last_none (first_where (is_wide constant naming nodes) nodes) bound body (parts_narrow constant naming nodes id (Let bound body) there below narrow)

  abbrev values : List TermId → List (Option ℤ)
  values args = map (λ (x : TermId). constant x.0) args

  abbrev forms : List TermId → List Linear
  forms args = map (λ (x : TermId). form_by constant naming nodes x.0) args

  -- a sum, whose form is made of those of its arguments
  pub sum_is : (id : ℕ) (op : OpKind) (args : List TermId) → slice_get nodes id ≡ Some (Op op args) → has_parts_below id (Op op args) ≡ true → is_sum op ≡ true
      → form_by constant naming nodes id ≡ operation_form op zero_form (values args) (forms args)
  sum_is id op args there below sum =
      linear_at constant naming nodes id id (Op op args) there below ∙ sum_alone op (auxiliary_form (naming.auxiliary id)) zero_form (values args) (forms args) sum

  pub sum_narrow : (id : ℕ) (op : OpKind) (args : List TermId) → slice_get nodes id ≡ Some (Op op args) → has_parts_below id (Op op args) ≡ true → IsNarrowTerm constant naming nodes id → is_sum op ≡ true
      → is_narrow (operation_form op zero_form (values args) (forms args)) ≡ true
  sum_narrow id op args there below narrow sum = ap is_narrow (sym (sum_is id op args there below sum)) ∙ own_narrow id (Op op args) there below narrow
