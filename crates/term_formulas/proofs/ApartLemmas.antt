-- A place's variable isn't in the forms that its formula is made of.
use Rattle.std.proofs.Common.{◌≡◌, ℕ, zero, suc, ◌<◌, ◌==◌, ◌≤◌, ◌+◌, List, [], ◌∷◌, length, map, Bool, true, false, not, ◌||◌, refl, ap, sym, ◌∙◌, arith}
use Rattle.std.specs.Prelude.{slice_get, Option, Some, None, ℤ, if◌then◌else◌}
use Rattle.std.proofs.lemmas.Bool.{eqb-true}
use Rattle.term_tree.specs.declared.node.TermId.{TermId}
use Rattle.term_tree.specs.declared.node.OpKind.{OpKind}
use Rattle.term_tree.specs.declared.node.OpKind.TheVariants.{Ite, Abs, Div as Quotient, Mod as Remainder}
use Rattle.term_tree.specs.declared.node.Node.{Node}
use Rattle.term_tree.specs.declared.node.Node.TheVariants.{Var, LetVar, Op, Let}
use Rattle.term_tree.specs.Arena.{IsArena, has_parts_below}
use Rattle.term_tree.specs.Constants.{constant_of}
use Rattle.term_tree.specs.Subterms.{IsSubterm, inside, is_among, is_part, itself}
use Rattle.term_tree.proofs.Public.{arena_below, eqb_self, part_below, there_is}
use Rattle.lin_atoms.specs.Linear.{Linear, lin_all}
use Rattle.linear_terms.specs.Linear.{Naming, auxiliary_form, is_narrow, linear_of, node_linear, operation_form, told_linear, variable_form}
use Rattle.linear_terms.specs.Width.{first_among, first_where, text_parts}
use Rattle.linear_terms.proofs.Public.{linear_at}
use Rattle.term_forms.specs.Found.{form_by, is_wide}
use Rattle.term_forms.proofs.FoundLemmas.{first_at}
use Rattle.term_forms.proofs.LegalLemmas.{forms_same}
use Rattle.term_widths.specs.Wide.{has_wide_sides}
use Rattle.term_widths.proofs.RenamingLemmas.{only_names}
use Rattle.term_widths.proofs.SeekLemmas.{none_first, none_second}
use Rattle.term_formulas.specs.Written.{HasRoom}
use Rattle.term_formulas.specs.machinery.Fresh.{IsFresh}
use Rattle.term_formulas.specs.machinery.Parts.{IsApart, IsMadeOf, is_unit_node}
use Rattle.term_formulas.proofs.RoomLemmas.{fails, or_right, room_part, through}

-- The form of a part doesn't have it, since a subterm of a part has a smaller number than the place
subterm_most : (nodes : List Node) → IsArena nodes → (top id : ℕ) → IsSubterm nodes top id → id ≤ top
subterm_most nodes arena top id itself = omega arith
subterm_most nodes arena top id (inside part node sub is has) =
    let less = part_below part _ node (arena_below nodes _ node arena is) has in
    let rest = subterm_most nodes arena top _ sub in
    omega (arith, less, rest)

is_same : (u v : ℕ) → not (u == v) ≡ false → u ≡ v
is_same u v h = eqb-true u v (not_false (u == v) h)
  where
    not_false : (b : Bool) → not b ≡ false → b ≡ true
    not_false true h = refl
    not_false false h = absurd (cc)

form_narrow : (constant : ℕ → Option ℤ) (naming : Naming) (nodes : List Node) (id : ℕ) → IsArena nodes → HasRoom constant naming nodes id → is_narrow (form_by constant naming nodes id) ≡ true
form_narrow constant naming nodes id arena room =
    let found = there_is nodes id room.there in
    let node : Node = found.0 in
    let is : slice_get nodes id ≡ Some node = found.1 in
    let below : has_parts_below id node ≡ true = arena_below nodes id node arena is in
    let forms : first_where (is_wide constant naming nodes) nodes id ≡ None =
    none_first (first_where (is_wide constant naming nodes) nodes id) (first_where (has_wide_sides constant naming nodes) nodes id) room.narrow in
    let own : (if is_wide constant naming nodes id then Some id else None) ≡ None =
    none_second (first_among (first_where (is_wide constant naming nodes) nodes) (text_parts node)) (if is_wide constant naming nodes id then Some id else None)
    (sym (first_at (is_wide constant naming nodes) nodes id node is below) ∙ forms) in
    is_narrow_then (is_narrow (form_by constant naming nodes id)) (fails (is_wide constant naming nodes id) id own)
  where
    is_narrow_then : (b : Bool) → not b ≡ false → b ≡ true
    is_narrow_then true h = refl
    is_narrow_then false h = absurd (cc)

pub part_apart : (constant : ℕ → Option ℤ) (naming : Naming) (nodes : List Node) (v id part : ℕ) (node : Node) → IsArena nodes → HasRoom constant naming nodes id
    → IsFresh nodes naming v id → slice_get nodes id ≡ Some node → is_part part node ≡ true → IsApart v (form_by constant naming nodes part)
part_apart constant naming nodes v id part node arena room fresh is has =
    let inner = room_part constant naming nodes id part node arena room is has in
    let less : part < id = part_below part id node (arena_below nodes id node arena is) has in
    let down : IsSubterm nodes id part = inside part node itself is has in
    let same : form_by constant naming nodes part ≡ linear_of naming nodes part =
    forms_same constant (constant_of nodes) naming nodes part arena (λ q sub within. inner.constants q sub within) (part + 1) part (omega arith) inner.there itself in
    let names : lin_all (λ u. not (u == v)) (linear_of naming nodes part) ≡ true =
    only_names nodes part naming (λ u. not (u == v)) arena (λ u no. record {
      own = λ binder occurs named.
          fresh.apart binder (record { id = occurs.id; sort = occurs.sort; below = through nodes id part occurs.id down occurs.below; is = occurs.is }) (named ∙ is_same u v no);
      auxiliary = λ other sub named.
          let one : other ≡ id = fresh.alone other (named ∙ ap (λ (k : ℕ). Some k) (is_same u v no)) in
          let most : other ≤ part = subterm_most nodes arena part other sub in
          absurd (omega (arith, one, most, less));
    }) part inner.there itself in
    (form_narrow constant naming nodes part arena inner, ap (lin_all (λ u. not (u == v))) same ∙ names)

pub made_apart : (constant : ℕ → Option ℤ) (naming : Naming) (nodes : List Node) (v id part : ℕ) → IsArena nodes → HasRoom constant naming nodes id → IsFresh nodes naming v id → IsMadeOf nodes id part
    → IsApart v (form_by constant naming nodes part)
made_apart constant naming nodes v id part arena room fresh made = part_apart constant naming nodes v id part made.0 arena room fresh made.1 made.2

-- the form of a term that is no unit is made without its own auxiliary variable
abbrev without : Naming → ℕ → Naming
without naming id = record { own = naming.own; auxiliary = λ other. if other == id then None else naming.auxiliary other }

without_other : (naming : Naming) (id other : ℕ) → other < id → naming.auxiliary other ≡ (without naming id).auxiliary other
without_other naming id other less = sym (ap (λ (b : Bool). if b then None else naming.auxiliary other) (differs (other == id) refl))
  where
    differs : (b : Bool) → (other == id) ≡ b → (other == id) ≡ false
    differs true same = let equal : other ≡ id = eqb-true other id same in absurd (omega (arith, equal, less))
    differs false differ = differ

never_named : (naming : Naming) (nodes : List Node) (v id : ℕ) → IsFresh nodes naming v id → (other : ℕ) → (without naming id).auxiliary other ≡ Some v → ⊥
never_named naming nodes v id fresh other named = by_test (other == id) refl named
  where
    by_test : (b : Bool) → (other == id) ≡ b → (if b then None else naming.auxiliary other) ≡ Some v → ⊥
    by_test true same none = absurd (cc)
    by_test false differ some =
        let self : (other == id) ≡ true = ap (λ (k : ℕ). k == id) (fresh.alone other some) ∙ eqb_self id in
        absurd (cc)

parts_named : (p q : ℕ → ℕ → Linear) (ids : List TermId) → ((part : ℕ) → is_among part ids ≡ true → p part part ≡ q part part)
    → map (λ (id : TermId). p id.0 id.0) ids ≡ map (λ (id : TermId). q id.0 id.0) ids
parts_named p q [] same = refl
parts_named p q (id ∷ ids) same =
    ap (λ (x : Linear). x ∷ map (λ (i : TermId). p i.0 i.0) ids) (same id.0 (ap (λ (b : Bool). b || is_among id.0 ids) (eqb_self id.0)))
    ∙ ap (λ (xs : List Linear). q id.0 id.0 ∷ xs) (parts_named p q ids (λ part has. same part (or_right (id.0 == part) (is_among part ids) has)))

node_named : (C : ℕ → Option ℤ) (a b : Naming) (p q : ℕ → ℕ → Linear) (node : Node) (own : ℕ) → ((k : ℕ) → a.own k ≡ b.own k) → a.auxiliary own ≡ b.auxiliary own
    → ((part : ℕ) → is_part part node ≡ true → p part part ≡ q part part) → node_linear C a p node own ≡ node_linear C b q node own
node_named C a b p q (Var binder sort) own names same parts = ap variable_form (names binder)
node_named C a b p q (LetVar bound) own names same parts = parts bound.0 (eqb_self bound.0)
node_named C a b p q (Op op args) own names same parts =
    ap (λ (o : Option ℕ). operation_form op (auxiliary_form o) (map (λ (arg : TermId). C arg.0) args) (map (λ (arg : TermId). p arg.0 arg.0) args)) same
    ∙ ap (operation_form op (auxiliary_form (b.auxiliary own)) (map (λ (arg : TermId). C arg.0) args)) (parts_named p q args parts)
node_named C a b p q (Let bound body) own names same parts = parts body.0 (or_right (is_among body.0 bound) (body.0 == body.0) (eqb_self body.0))
node_named C a b p q _ own names same parts = refl

no_unit : (op : OpKind) (args : List TermId) (u w : Linear) (ks : List (Option ℤ)) (forms : List Linear) → is_unit_node (Some (Op op args)) ≡ false → operation_form op u ks forms ≡ operation_form op w ks forms
no_unit Ite args u w ks forms h = absurd (cc)
no_unit Abs args u w ks forms h = absurd (cc)
no_unit Quotient args u w ks forms h = absurd (cc)
no_unit Remainder args u w ks forms h = absurd (cc)
no_unit _ args u w ks forms h = refl

node_free : (C : ℕ → Option ℤ) (naming : Naming) (p q : ℕ → ℕ → Linear) (node : Node) (own : ℕ) → is_unit_node (Some node) ≡ false
    → ((part : ℕ) → is_part part node ≡ true → p part part ≡ q part part) → node_linear C naming p node own ≡ node_linear C (without naming own) q node own
node_free C naming p q (Op op args) own h parts =
    no_unit op args (auxiliary_form (naming.auxiliary own)) (auxiliary_form ((without naming own).auxiliary own)) (map (λ (arg : TermId). C arg.0) args) (map (λ (arg : TermId). p arg.0 arg.0) args) h
    ∙ ap (operation_form op (auxiliary_form ((without naming own).auxiliary own)) (map (λ (arg : TermId). C arg.0) args)) (parts_named p q args parts)
node_free C naming p q (LetVar bound) own h parts = parts bound.0 (eqb_self bound.0)
node_free C naming p q (Let bound body) own h parts = parts body.0 (or_right (is_among body.0 bound) (body.0 == body.0) (eqb_self body.0))
node_free C naming p q _ own h parts = refl

module _ (C : ℕ → Option ℤ) (naming : Naming) (nodes : List Node) (id : ℕ) (arena : IsArena nodes) (there : id < length nodes) where
  earlier_same : (n k : ℕ) → k < n → k < id → form_by C naming nodes k ≡ form_by C (without naming id) nodes k
  earlier_same zero k h less = absurd (omega arith)
  earlier_same (suc n) k h less =
      let found = there_is nodes k (omega (arith, less, there)) in
      let node : Node = found.0 in
      let is : slice_get nodes k ≡ Some node = found.1 in
      let below : has_parts_below k node ≡ true = arena_below nodes k node arena is in
      linear_at C naming nodes k k node is below
      ∙ node_named C naming (without naming id) (told_linear C naming nodes) (told_linear C (without naming id) nodes) node k (λ binder. refl) (without_other naming id k less)
      (λ part has. let smaller : part < k = part_below part k node below has in earlier_same n part (omega (arith, smaller, h)) (omega (arith, smaller, less)))
      ∙ sym (linear_at C (without naming id) nodes k k node is below)

  own_free : (node : Node) → slice_get nodes id ≡ Some node → is_unit_node (Some node) ≡ false → form_by C naming nodes id ≡ form_by C (without naming id) nodes id
  own_free node is plain =
      let below : has_parts_below id node ≡ true = arena_below nodes id node arena is in
      linear_at C naming nodes id id node is below
      ∙ node_free C naming (told_linear C naming nodes) (told_linear C (without naming id) nodes) node id plain
      (λ part has. let smaller : part < id = part_below part id node below has in earlier_same id part smaller smaller)
      ∙ sym (linear_at C (without naming id) nodes id id node is below)

pub own_apart : (constant : ℕ → Option ℤ) (naming : Naming) (nodes : List Node) (v id : ℕ) → IsArena nodes → HasRoom constant naming nodes id → IsFresh nodes naming v id
    → is_unit_node (slice_get nodes id) ≡ false → IsApart v (form_by constant naming nodes id)
own_apart constant naming nodes v id arena room fresh plain =
    let found = there_is nodes id room.there in
    let node : Node = found.0 in
    let is : slice_get nodes id ≡ Some node = found.1 in
    let same : form_by constant naming nodes id ≡ linear_of naming nodes id =
    forms_same constant (constant_of nodes) naming nodes id arena (λ q sub within. room.constants q sub within) (id + 1) id (omega arith) room.there itself in
    let free : linear_of naming nodes id ≡ linear_of (without naming id) nodes id =
    own_free (constant_of nodes) naming nodes id arena room.there node is (sym (ap is_unit_node is) ∙ plain) in
    let names : lin_all (λ u. not (u == v)) (linear_of (without naming id) nodes id) ≡ true =
    only_names nodes id (without naming id) (λ u. not (u == v)) arena (λ u no_more. record {
      own = λ binder occurs named. fresh.apart binder occurs (named ∙ is_same u v no_more);
      auxiliary = λ other sub named. never_named naming nodes v id fresh other (named ∙ ap (λ (k : ℕ). Some k) (is_same u v no_more));
    }) id room.there itself in
    (form_narrow constant naming nodes id arena room, ap (lin_all (λ u. not (u == v))) (same ∙ free) ∙ names)
