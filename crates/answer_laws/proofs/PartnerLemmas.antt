-- What holds of the nodes of a term holds of those of a term that is equal as a tree, where alike nodes pass or fail together.
use Rattle.std.proofs.Common.{◌≡◌, ℕ, ◌<◌, ◌==◌, List, [], ◌∷◌, length, Bool, true, false, ◌||◌, refl, sym, ap, subst, ◌∙◌, arith, inl, inr}
use Rattle.std.proofs.lemmas.Bool.{cases_lt}
use Rattle.std.proofs.lemmas.Bool.Decides.{nat_tests}
use Rattle.std.specs.Prelude.{slice_get, Some, ℤ}
use Rattle.std.specs.Ordering.{int_eq}
use Rattle.std.proofs.lemmas.Int.{ints}
use Rattle.term_tree.specs.declared.node.TermId.{TermId}
use Rattle.term_tree.specs.declared.node.Node.{Node}
use Rattle.term_tree.specs.declared.node.Node.TheVariants.{Num, True, False, Var, LetVar, Pred, Op, Divisible, Let, Forall, Exists}
use Rattle.term_tree.specs.Arena.{IsArena}
use Rattle.term_tree.specs.Constants.{is_short}
use Rattle.term_tree.specs.Same.{is_alike, parts_of, same_parts, same_node, node_is_same, is_same_tree}
use Rattle.term_tree.specs.Solution.{has_short_divisor}
use Rattle.term_tree.specs.Subterms.{is_among, is_part, IsSubterm, EverySubterm}
use Rattle.term_tree.specs.Subterms.IsSubterm.{itself, inside}
use Rattle.term_tree.proofs.Public.{arena_below, both_true, same_at, there_is, told_past}

swap : (a b : Bool) → (a || b) ≡ true → (b || a) ≡ true
swap true true h = refl
swap true false h = refl
swap false true h = refl
swap false false h = h

alone : (a : Bool) → a ≡ true → (a || false) ≡ true
alone true h = refl
alone false h = absurd (cc)

only : (a : Bool) → (a || false) ≡ true → a ≡ true
only true h = refl
only false h = absurd (cc)

-- the parts of a node are those that it is made of
listed : (part : ℕ) (node : Node) → is_part part node ≡ true → is_among part (parts_of node) ≡ true
listed part (Num k) h = absurd (cc)
listed part True h = absurd (cc)
listed part False h = absurd (cc)
listed part (Var binder sort) h = absurd (cc)
listed part (LetVar bound) h = alone (bound.0 == part) h
listed part (Pred pred args) h = h
listed part (Op op args) h = h
listed part (Divisible by arg) h = alone (arg.0 == part) h
listed part (Let bound body) h = swap (is_among part bound) (body.0 == part) h
listed part (Forall first sorts body) h = alone (body.0 == part) h
listed part (Exists first sorts body) h = alone (body.0 == part) h

made_of : (part : ℕ) (node : Node) → is_among part (parts_of node) ≡ true → is_part part node ≡ true
made_of part (Num k) h = absurd (cc)
made_of part True h = absurd (cc)
made_of part False h = absurd (cc)
made_of part (Var binder sort) h = absurd (cc)
made_of part (LetVar bound) h = only (bound.0 == part) h
made_of part (Pred pred args) h = h
made_of part (Op op args) h = h
made_of part (Divisible by arg) h = only (arg.0 == part) h
made_of part (Let bound body) h = swap (body.0 == part) (is_among part bound) h
made_of part (Forall first sorts body) h = only (body.0 == part) h
made_of part (Exists first sorts body) h = only (body.0 == part) h

same_id : (i j : ℕ) → (i == j) ≡ true → i ≡ j
same_id i j h = grind (arith, nat_tests)

own_id : (i : ℕ) → (i == i) ≡ true
own_id i = grind (arith, nat_tests)

first_of : (a b : Bool) → a ≡ true → (a || b) ≡ true
first_of true b h = refl
first_of false b h = absurd (cc)

later_of : (a b : Bool) → b ≡ true → (a || b) ≡ true
later_of true b h = refl
later_of false b h = h

or_else : {A : Type 0} (a b : Bool) → (a || b) ≡ true → (a ≡ true → A) → (b ≡ true → A) → A
or_else true b h f g = f refl
or_else false b h f g = g h

-- a part on the right has a partner on the left
partner_among : (same : ℕ → ℕ → Bool) (xs ys : List TermId) (part : ℕ) → same_parts same xs ys ≡ true → is_among part ys ≡ true → (low : ℕ) × (is_among low xs ≡ true) × (same low part ≡ true)
partner_among same [] [] part h has = absurd (cc)
partner_among same [] (y ∷ ys) part h has = absurd (cc)
partner_among same (x ∷ xs) [] part h has = absurd (cc)
partner_among same (x ∷ xs) (y ∷ ys) part h has =
    let both = both_true (same x.0 y.0) (same_parts same xs ys) h in
    or_else (y.0 == part) (is_among part ys) has
    (λ e. (x.0, first_of (x.0 == x.0) (is_among x.0 xs) (own_id x.0), subst (λ (k : ℕ). same x.0 k ≡ true) (same_id y.0 part e) both.0))
    (λ e. let rest = partner_among same xs ys part both.1 e in (rest.0, later_of (x.0 == rest.0) (is_among rest.0 xs) rest.1, rest.2))

same_divisor : (a b : ℤ) → int_eq a b ≡ true → a ≡ b
same_divisor a b h = grind (arith, ints)

-- alike nodes have short divisors together
short_together : (node partner : Node) → is_alike node partner ≡ true → has_short_divisor node ≡ true → has_short_divisor partner ≡ true
short_together node (Num n) alike h = refl
short_together node True alike h = refl
short_together node False alike h = refl
short_together node (Var binder sort) alike h = refl
short_together node (LetVar bound) alike h = refl
short_together node (Pred pred args) alike h = refl
short_together node (Op op args) alike h = refl
short_together node (Let bound body) alike h = refl
short_together node (Forall first sorts body) alike h = refl
short_together node (Exists first sorts body) alike h = refl
short_together (Divisible by arg) (Divisible other id) alike h = subst (λ (k : ℤ). is_short k ≡ true) (same_divisor by other alike) h
short_together (Num n) (Divisible other id) alike h = absurd (cc)
short_together True (Divisible other id) alike h = absurd (cc)
short_together False (Divisible other id) alike h = absurd (cc)
short_together (Var binder sort) (Divisible other id) alike h = absurd (cc)
short_together (LetVar bound) (Divisible other id) alike h = absurd (cc)
short_together (Pred pred args) (Divisible other id) alike h = absurd (cc)
short_together (Op op args) (Divisible other id) alike h = absurd (cc)
short_together (Let bound body) (Divisible other id) alike h = absurd (cc)
short_together (Forall first sorts body) (Divisible other id) alike h = absurd (cc)
short_together (Exists first sorts body) (Divisible other id) alike h = absurd (cc)

module _ (nodes others : List Node) (arena : IsArena nodes) where
  true_not_false : true ≡ false → ⊥
  true_not_false e = absurd (cc)

  -- the nodes of terms that are equal as trees
  record Pair (id other : ℕ) (partner : Node) : Type 0 where
    pub node : Node
    pub is : slice_get nodes id ≡ Some node
    pub alike : is_alike node partner ≡ true
    pub parts : same_parts (λ i j. is_same_tree nodes i others j) (parts_of node) (parts_of partner) ≡ true

  paired : (id other : ℕ) (partner : Node) → slice_get others other ≡ Some partner → is_same_tree nodes id others other ≡ true → Pair id other partner
  paired id other partner at h =
      let found = there_is nodes id within in
      let below = arena_below nodes id found.0 arena found.1 in
      let told = sym (same_at nodes others id other found.0 found.1 below) ∙ h in
      let both = both_true (is_alike found.0 partner) (same_parts (λ i. is_same_tree nodes i others) (parts_of found.0) (parts_of partner))
      (sym (ap (same_node (λ i. is_same_tree nodes i others) found.0) at) ∙ told) in
      record { node = found.0; is = found.1; alike = both.0; parts = both.1 }
    where
      within : id < length nodes
      within = elim (cases_lt id (length nodes)) [
        | inl less ↦ less
        | inr past ↦ absurd (true_not_false (sym h ∙ ap (λ (f : ℕ → Bool). f other) (told_past (ℕ → Bool) (λ j. false) (node_is_same others) nodes id past)))
      ]

  -- a subterm on the right has a partner on the left
  partner : (top other id : ℕ) → is_same_tree nodes top others other ≡ true → IsSubterm others other id → (low : ℕ) × IsSubterm nodes top low × (is_same_tree nodes low others id ≡ true)
  partner top other _ h itself = (top, itself, h)
  partner top other _ h (inside part node sub at has) =
      let before = partner top other _ h sub in
      let p = paired before.0 _ node at before.2 in
      let found = partner_among (λ i j. is_same_tree nodes i others j) (parts_of p.node) (parts_of node) part p.parts (listed part node has) in
      (found.0, inside found.0 p.node before.1 p.is (made_of found.0 p.node found.1), found.2)

  pub short_divisors : (top other : ℕ) → is_same_tree nodes top others other ≡ true → EverySubterm has_short_divisor nodes top → EverySubterm has_short_divisor others other
  short_divisors top other h short id node sub at =
      let found = partner top other id h sub in
      let p = paired found.0 id node at found.2 in
      short_together p.node node p.alike (short found.0 p.node found.1 p.is)
