-- The bit of a Bool term, by its node.
use Rattle.std.proofs.Common.{◌≡◌, ℕ, zero, suc, ◌<◌, ◌+◌, List, [], ◌∷◌, ◌++◌, length, map, take, drop, get_or, true, inl, inr, refl, ap, sym, ◌∙◌, subst, arith}
use Rattle.std.specs.Prelude.{slice_get, Option, Some, None, nat_lt}
use Rattle.std.specs.List.{list_all}
use Rattle.std.proofs.lemmas.List.{drop_more, map-append, take_more}
use Rattle.term_tree.specs.declared.sort.Sort.{Sort}
use Rattle.term_tree.specs.declared.node.TermId.{TermId}
use Rattle.term_tree.specs.declared.node.Node.{Node}
use Rattle.term_tree.specs.declared.node.Node.TheVariants.{Num, True, False, Var, LetVar, Pred, Op, Divisible, Let, Forall, Exists}
use Rattle.term_tree.specs.Arena.{IsArena, has_parts_below, is_below}
use Rattle.term_tree.specs.Subterms.{is_part}
use Rattle.term_tree.proofs.Public.{arena_below, below_from, both_true, eqb_self, part_below, there_is}
use Rattle.lin_atoms.specs.Linear.{Linear}
use Rattle.linear_terms.specs.Linear.{Naming, bare_bit, bit_form, bit_of, told_bit, variable_form, zero_form}
use Rattle.linear_terms.proofs.Public.{bit_at}
use Rattle.term_formulas.specs.machinery.Parts.{AreBits, IsBit}

-- a bit is a variable, 0 or 1
bit_of_form : (o : Option ℕ) (bare : Linear) → IsBit bare → IsBit (bit_form o bare)
bit_of_form None bare is = is
bit_of_form (Some v) bare is = inl (v, refl)

bare_is : (naming : Naming) (part : ℕ → ℕ → Linear) (node : Node) → ((p : ℕ) → is_part p node ≡ true → IsBit (part p p)) → IsBit (bare_bit naming part node)
bare_is naming part True parts = inr (inr refl)
bare_is naming part (Var binder sort) parts = inl (naming.own binder, refl)
bare_is naming part (LetVar bound) parts = parts bound.0 (eqb_self bound.0)
bare_is naming part (Num n) parts = inr (inl refl)
bare_is naming part False parts = inr (inl refl)
bare_is naming part (Pred pred args) parts = inr (inl refl)
bare_is naming part (Op op args) parts = inr (inl refl)
bare_is naming part (Divisible by arg) parts = inr (inl refl)
bare_is naming part (Let bound body) parts = inr (inl refl)
bare_is naming part (Forall first sorts body) parts = inr (inl refl)
bare_is naming part (Exists first sorts body) parts = inr (inl refl)

bit_below : (naming : Naming) (nodes : List Node) → IsArena nodes → (n id : ℕ) → id < n → id < length nodes → IsBit (bit_of naming nodes id)
bit_below naming nodes arena zero id less within = absurd (omega arith)
bit_below naming nodes arena (suc n) id less within =
    let found = there_is nodes id within in
    let node : Node = found.0 in
    let is : slice_get nodes id ≡ Some node = found.1 in
    let below : has_parts_below id node ≡ true = arena_below nodes id node arena is in
    subst (λ (form : Linear). IsBit form) (sym (bit_at naming nodes id id node is below))
    (bit_of_form (naming.auxiliary id) (bare_bit naming (told_bit naming nodes) node) (bare_is naming (told_bit naming nodes) node (λ part has.
    let smaller : part < id = part_below part id node below has in
    bit_below naming nodes arena n part (omega (arith, smaller, less)) (omega (arith, smaller, within)))))

pub bit_is : (naming : Naming) (nodes : List Node) → IsArena nodes → (id : ℕ) → id < length nodes → IsBit (bit_of naming nodes id)
bit_is naming nodes arena id within = bit_below naming nodes arena (id + 1) id (omega arith) within

pub bits_are : (naming : Naming) (nodes : List Node) → IsArena nodes → (ids : List TermId) → list_all (is_below (length nodes)) ids ≡ true
    → AreBits (map (λ (id : TermId). bit_of naming nodes id.0) ids)
bits_are naming nodes arena [] there = tt
bits_are naming nodes arena (id ∷ ids) there =
    let both = both_true (nat_lt id.0 (length nodes)) (list_all (is_below (length nodes)) ids) there in
    (bit_is naming nodes arena id.0 (below_from id.0 (length nodes) both.0), bits_are naming nodes arena ids both.1)

-- by the node, where the term has an auxiliary variable, and where it has none
pub bit_named : (naming : Naming) (nodes : List Node) (id v : ℕ) (node : Node) → slice_get nodes id ≡ Some node → has_parts_below id node ≡ true → naming.auxiliary id ≡ Some v
    → bit_of naming nodes id ≡ variable_form v
bit_named naming nodes id v node is below named = bit_at naming nodes id id node is below ∙ ap (λ (o : Option ℕ). bit_form o (bare_bit naming (told_bit naming nodes) node)) named

pub bit_bare : (naming : Naming) (nodes : List Node) (id : ℕ) (node : Node) → slice_get nodes id ≡ Some node → has_parts_below id node ≡ true → naming.auxiliary id ≡ None
    → bit_of naming nodes id ≡ bare_bit naming (told_bit naming nodes) node
bit_bare naming nodes id node is below bare = bit_at naming nodes id id node is below ∙ ap (λ (o : Option ℕ). bit_form o (bare_bit naming (told_bit naming nodes) node)) bare

-- the bit of every other term without an auxiliary variable is 0
pub bare_zero : (naming : Naming) (part : ℕ → ℕ → Linear) (node : Node) → (node ≡ True → ⊥) → ((binder : ℕ) (sort : Sort) → node ≡ Var binder sort → ⊥) → ((bound : TermId) → node ≡ LetVar bound → ⊥)
    → bare_bit naming part node ≡ zero_form
bare_zero naming part True a b c = absurd (a refl)
bare_zero naming part (Var binder sort) a b c = absurd (b binder sort refl)
bare_zero naming part (LetVar bound) a b c = absurd (c bound refl)
bare_zero naming part _ a b c = refl

-- the bit of the next term, and the terms behind it
pub bits_next : (f : TermId → Linear) (ids : List TermId) (i : ℕ) (d : TermId) (bit : Linear) (now new : List Linear) → i < length ids → bit ≡ f (get_or ids i d) → now ≡ map f (take i ids) → new ≡ now ++ bit ∷ [] → new ≡ map f (take (i + 1) ids)
bits_next f ids i d bit now new within made so pushed =
    pushed ∙ ap (λ (bits : List Linear). bits ++ bit ∷ []) so ∙ ap (λ (b : Linear). map f (take i ids) ++ b ∷ []) made
    ∙ sym (map-append f (take i ids) (get_or ids i d ∷ [])) ∙ ap (map f) (sym (take_more ids i d within))

pub ids_next : (n : ℕ) (ids : List TermId) (i : ℕ) (d : TermId) → i < length ids → list_all (is_below n) (drop i ids) ≡ true → ((get_or ids i d).0 < n) × (list_all (is_below n) (drop (i + 1) ids) ≡ true)
ids_next n ids i d within there =
    let both = both_true (nat_lt (get_or ids i d).0 n) (list_all (is_below n) (drop (i + 1) ids)) (sym (ap (list_all (is_below n)) (drop_more ids i d within)) ∙ there) in
    (below_from (get_or ids i d).0 n both.0, both.1)
