-- With the values of the constants, what is found of a term is its linear form.
use Rattle.std.proofs.Common.{◌≡◌, ℕ, zero, suc, ◌+◌, ◌<◌, List, [], ◌∷◌, ◌++◌, length, map, Bool, true, false, ◌||◌, ◌==◌, refl, ap, sym, ◌∙◌, arith}
use Rattle.std.specs.Prelude.{slice_get, Option, Some, None, ℤ, not, if◌then◌else◌}
use Rattle.term_tree.specs.declared.node.TermId.{TermId}
use Rattle.term_tree.specs.declared.node.Node.{Node}
use Rattle.term_tree.specs.declared.node.Node.TheVariants.{Num, True, False, Var, LetVar, Pred, Op, Divisible, Let, Forall, Exists}
use Rattle.term_tree.specs.Arena.{IsArena, has_parts_below}
use Rattle.term_tree.specs.Constants.{constant_of}
use Rattle.term_tree.specs.Subterms.{IsSubterm, inside, is_among, is_part}
use Rattle.term_tree.proofs.Public.{arena_below, eqb_self, part_below, there_is}
use Rattle.lin_atoms.specs.Linear.{Linear}
use Rattle.linear_terms.specs.Linear.{Naming, auxiliary_form, is_narrow, linear_of, node_linear, operation_form, told_linear}
use Rattle.linear_terms.specs.Width.{first_among, first_of_two, first_where, is_wide_term, text_parts}
use Rattle.linear_terms.proofs.PartLemmas.{linear_at}
use Rattle.term_forms.specs.Found.{form_by, form_or_wide, is_wide, unless_wide}
use Rattle.term_forms.proofs.FoundLemmas.{first_at}

either_right : (a b : Bool) → b ≡ true → (a || b) ≡ true
either_right true b h = refl
either_right false b h = h

no_other : (a : Bool) → (a || false) ≡ true → a ≡ true
no_other true h = refl
no_other false h = h

first_part : (id : TermId) (ids : List TermId) → is_among id.0 (id ∷ ids) ≡ true
first_part id ids = ap (λ (b : Bool). b || is_among id.0 ids) (eqb_self id.0)

later_part : (part : ℕ) (id : TermId) (ids : List TermId) → is_among part ids ≡ true → is_among part (id ∷ ids) ≡ true
later_part part id ids has = either_right (id.0 == part) (is_among part ids) has

-- parts of which the same is told
parts_same : (X : Type 0) (p q : ℕ → X) (ids : List TermId) → ((part : ℕ) → is_among part ids ≡ true → p part ≡ q part) → map (λ (id : TermId). p id.0) ids ≡ map (λ (id : TermId). q id.0) ids
parts_same X p q [] same = refl
parts_same X p q (id ∷ ids) same =
    ap (λ (x : X). x ∷ map (λ (i : TermId). p i.0) ids) (same id.0 (first_part id ids))
    ∙ ap (λ (xs : List X). q id.0 ∷ xs) (parts_same X p q ids (λ part has. same part (later_part part id ids has)))

node_same : (C D : ℕ → Option ℤ) (naming : Naming) (p q : ℕ → ℕ → Linear) (node : Node) (own : ℕ) → ((part : ℕ) → is_part part node ≡ true → C part ≡ D part)
    → ((part : ℕ) → is_part part node ≡ true → p part part ≡ q part part) → node_linear C naming p node own ≡ node_linear D naming q node own
node_same C D naming p q (LetVar bound) own constants forms = forms bound.0 (eqb_self bound.0)
node_same C D naming p q (Op op args) own constants forms =
    ap (λ (ks : List (Option ℤ)). operation_form op (auxiliary_form (naming.auxiliary own)) ks (map (λ (arg : TermId). p arg.0 arg.0) args)) (parts_same (Option ℤ) C D args constants)
    ∙ ap (λ (fs : List Linear). operation_form op (auxiliary_form (naming.auxiliary own)) (map (λ (arg : TermId). D arg.0) args) fs) (parts_same Linear (λ part. p part part) (λ part. q part part) args forms)
node_same C D naming p q (Let bound body) own constants forms = forms body.0 (either_right (is_among body.0 bound) (body.0 == body.0) (eqb_self body.0))
node_same C D naming p q _ own constants forms = refl

module _ (C D : ℕ → Option ℤ) (naming : Naming) (nodes : List Node) (top : ℕ) (arena : IsArena nodes) (constants : (q : ℕ) → IsSubterm nodes top q → q < length nodes → C q ≡ D q) where
  -- the linear forms are the same
  pub forms_same : (n id : ℕ) → id < n → id < length nodes → IsSubterm nodes top id → form_by C naming nodes id ≡ form_by D naming nodes id
  forms_same zero id h within sub = absurd (omega arith)
  forms_same (suc n) id h within sub =
      let found = there_is nodes id within in
      let node : Node = found.0 in
      let is : slice_get nodes id ≡ Some node = found.1 in
      let below : has_parts_below id node ≡ true = arena_below nodes id node arena is in
      linear_at C naming nodes id id node is below
      ∙ node_same C D naming (told_linear C naming nodes) (told_linear D naming nodes) node id
      (λ part has. let less : part < id = part_below part id node below has in constants part (inside part node sub is has) (omega arith))
      (λ part has. let less : part < id = part_below part id node below has in forms_same n part (omega arith) (omega arith) (inside part node sub is has))
      ∙ sym (linear_at D naming nodes id id node is below)

by_first : (a b c d : Bool) → (b ≡ true → (c || d) ≡ true) → (a || b) ≡ true → ((a || c) || d) ≡ true
by_first true b c d rest h = refl
by_first false b c d rest h = rest h

among_last : (part : ℕ) (ids : List TermId) (id : TermId) → is_among part (ids ++ id ∷ []) ≡ true → (is_among part ids || (id.0 == part)) ≡ true
among_last part [] id h = no_other (id.0 == part) h
among_last part (k ∷ ids) id h = by_first (k.0 == part) (is_among part (ids ++ id ∷ [])) (is_among part ids) (id.0 == part) (among_last part ids id) h

-- the parts in the order of the text are parts
text_part : (part : ℕ) (node : Node) → is_among part (text_parts node) ≡ true → is_part part node ≡ true
text_part part (Num n) h = absurd (cc)
text_part part True h = absurd (cc)
text_part part False h = absurd (cc)
text_part part (Var binder sort) h = absurd (cc)
text_part part (LetVar bound) h = no_other (bound.0 == part) h
text_part part (Pred pred args) h = h
text_part part (Op op args) h = h
text_part part (Divisible by arg) h = no_other (arg.0 == part) h
text_part part (Let bound body) h = among_last part bound body h
text_part part (Forall first sorts body) h = no_other (body.0 == part) h
text_part part (Exists first sorts body) h = no_other (body.0 == part) h

firsts_among : (p q : ℕ → Option ℕ) (ids : List TermId) → ((part : ℕ) → is_among part ids ≡ true → p part ≡ q part) → first_among p ids ≡ first_among q ids
firsts_among p q [] same = refl
firsts_among p q (id ∷ ids) same =
    ap (λ (o : Option ℕ). first_of_two o (first_among p ids)) (same id.0 (first_part id ids))
    ∙ ap (first_of_two (q id.0)) (firsts_among p q ids (λ part has. same part (later_part part id ids has)))

module _ (p q : ℕ → Bool) (nodes : List Node) (top : ℕ) (arena : IsArena nodes) (tests : (id : ℕ) → IsSubterm nodes top id → id < length nodes → p id ≡ q id) where
  -- two tests that agree on all subterms find the same one first
  pub firsts_same : (n id : ℕ) → id < n → id < length nodes → IsSubterm nodes top id → first_where p nodes id ≡ first_where q nodes id
  firsts_same zero id h within sub = absurd (omega arith)
  firsts_same (suc n) id h within sub =
      let found = there_is nodes id within in
      let node : Node = found.0 in
      let is : slice_get nodes id ≡ Some node = found.1 in
      let below : has_parts_below id node ≡ true = arena_below nodes id node arena is in
      first_at p nodes id node is below
      ∙ ap (λ (o : Option ℕ). first_of_two o (if p id then Some id else None))
      (firsts_among (first_where p nodes) (first_where q nodes) (text_parts node)
      (λ part has. let is_one = text_part part node has in let less : part < id = part_below part id node below is_one in firsts_same n part (omega arith) (omega arith) (inside part node sub is is_one)))
      ∙ ap (λ (b : Bool). first_of_two (first_among (first_where q nodes) (text_parts node)) (if b then Some id else None)) (tests id sub within)
      ∙ sym (first_at q nodes id node is below)

pub found_of : (constant : ℕ → Option ℤ) (naming : Naming) (nodes : List Node) (top : ℕ) → IsArena nodes → ((q : ℕ) → IsSubterm nodes top q → q < length nodes → constant q ≡ constant_of nodes q)
    → (id : ℕ) → IsSubterm nodes top id → id < length nodes → form_or_wide constant naming nodes id ≡ unless_wide (first_where (is_wide_term naming nodes) nodes id) (linear_of naming nodes id)
found_of constant naming nodes top arena same id sub within =
    let forms : (k : ℕ) → IsSubterm nodes top k → k < length nodes → form_by constant naming nodes k ≡ linear_of naming nodes k =
    λ k below there. forms_same constant (constant_of nodes) naming nodes top arena same (k + 1) k (omega arith) there below in
    ap (λ (o : Option ℕ). unless_wide o (form_by constant naming nodes id))
    (firsts_same (is_wide constant naming nodes) (is_wide_term naming nodes) nodes top arena (λ k below there. ap (λ (l : Linear). not (is_narrow l)) (forms k below there)) (id + 1) id (omega arith) within sub)
    ∙ ap (λ (l : Linear). unless_wide (first_where (is_wide_term naming nodes) nodes id) l) (forms id sub within)
