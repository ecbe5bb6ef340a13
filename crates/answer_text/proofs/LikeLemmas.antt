-- Terms that a tree spells and the nodes of an arena that are alike, whatever their offsets.
use Rattle.std.proofs.Common.{ℕ, ℤ, pos, ◌≡◌, List, [], ◌∷◌, ◌++◌, Bool, true, false, ◌&&◌, Some, refl, ap, ◌∙◌, slice_get, arith}
use Rattle.std.proofs.lemmas.Int.{ints}
use Rattle.term_tree.specs.declared.sort.Sort.{Sort}
use Rattle.term_tree.specs.declared.sort.Sort.TheVariants.{Int as IntSort, Bool as BoolSort}
use Rattle.term_tree.specs.declared.node.TermId.{TermId}
use Rattle.term_tree.specs.declared.node.Node.{Node}
use Rattle.term_tree.specs.declared.node.Node.TheVariants.{Num, True, False, Var, Op, Divisible}
use Rattle.term_tree.specs.Arena.{Arena, IsArena}
use Rattle.term_tree.specs.Same.{is_alike, parts_of, same_parts, same_node, is_same_tree}
use Rattle.term_tree.proofs.Public.{arena_below, eqb_self, own_op, same_at}
use Rattle.term_check.specs.Term.{Term, numeral, truth, variable, let_name, predicate, operation, divisible, binding, universal, existential, Terms, none, more, with_last, IsTermAt, AreTermsAt}

-- the nodes have the term at this number
abbrev mutual
  pub IsLike : List Node → Term → ℕ → Type 0
  IsLike nodes (numeral at value) id = slice_get nodes id ≡ Some (Num value)
  IsLike nodes (truth at true) id = slice_get nodes id ≡ Some True
  IsLike nodes (truth at false) id = slice_get nodes id ≡ Some False
  IsLike nodes (variable at number sort) id = slice_get nodes id ≡ Some (Var number sort)
  IsLike nodes (operation at op args) id = (ids : List TermId) × (slice_get nodes id ≡ Some (Op op ids)) × AreLike nodes args ids
  IsLike nodes (divisible at by arg) id = (part : TermId) × (slice_get nodes id ≡ Some (Divisible (pos by) part)) × IsLike nodes arg part.0
  IsLike nodes (let_name at number) id = ⊥
  IsLike nodes (predicate at number args) id = ⊥
  IsLike nodes (binding at bound body) id = ⊥
  IsLike nodes (universal at first sorts body) id = ⊥
  IsLike nodes (existential at first sorts body) id = ⊥

  pub AreLike : List Node → Terms → List TermId → Type 0
  AreLike nodes none [] = Unit {0}
  AreLike nodes (more t ts) (id ∷ ids) = IsLike nodes t id.0 × AreLike nodes ts ids
  AreLike nodes none (id ∷ ids) = ⊥
  AreLike nodes (more t ts) [] = ⊥

-- one more at the end
pub like_last : (nodes : List Node) (ts : Terms) (ids : List TermId) (t : Term) (id : TermId) → AreLike nodes ts ids → IsLike nodes t id.0 → AreLike nodes (with_last ts t) (ids ++ id ∷ [])
like_last nodes none [] t id all like = (like, tt)
like_last nodes none (i ∷ ids) t id all like = absurd all
like_last nodes (more u us) [] t id all like = absurd all
like_last nodes (more u us) (i ∷ ids) t id all like = (all.0, like_last nodes us ids t id all.1 like)

both : (a b : Bool) → a ≡ true → b ≡ true → (a && b) ≡ true
both true b h k = k
both false b h k = absurd (cc)

own_integer : (k : ℤ) → Rattle.std.specs.Ordering.int_eq k k ≡ true
own_integer k = grind (arith, ints)

own_sort : (s : Sort) → Rattle.term_tree.specs.Sorts.same_sort s s ≡ true
own_sort IntSort = refl
own_sort BoolSort = refl

module _ (nodes : List Node) (arena : IsArena nodes) (other : Arena) where
  -- two nodes that are there, alike, with equal parts
  same_by : (id at : ℕ) (node partner : Node) → slice_get nodes id ≡ Some node → slice_get other.nodes at ≡ Some partner → is_alike node partner ≡ true
      → same_parts (λ i. is_same_tree nodes i other.nodes) (parts_of node) (parts_of partner) ≡ true → is_same_tree nodes id other.nodes at ≡ true
  same_by id at node partner is there alike parts =
      same_at nodes other.nodes id at node is (arena_below nodes id node arena is) ∙ ap (same_node (λ i. is_same_tree nodes i other.nodes) node) there
      ∙ both (is_alike node partner) (same_parts (λ i. is_same_tree nodes i other.nodes) (parts_of node) (parts_of partner)) alike parts

  mutual
    pub like_same : (t : Term) (id at : ℕ) → IsLike nodes t id → IsTermAt other [] t at → is_same_tree nodes id other.nodes at ≡ true
    like_same (numeral o value) id at like there = same_by id at (Num value) (Num value) like there.0 (own_integer value) refl
    like_same (truth o true) id at like there = same_by id at True True like there.0 refl refl
    like_same (truth o false) id at like there = same_by id at False False like there.0 refl refl
    like_same (variable o number sort) id at like there = same_by id at (Var number sort) (Var number sort) like there.0 (both _ _ (eqb_self number) (own_sort sort)) refl
    like_same (operation o op args) id at like there = same_by id at (Op op like.0) (Op op there.0) like.1 there.1.0 (own_op op) (parts_same args like.0 there.0 like.2 there.2)
    like_same (divisible o by arg) id at like there =
        same_by id at (Divisible (pos by) like.0) (Divisible (pos by) there.0) like.1 there.1.0 (own_integer (pos by)) (both _ true (like_same arg like.0.0 there.0.0 like.2 there.2) refl)
    like_same (let_name o number) id at like there = absurd like
    like_same (predicate o number args) id at like there = absurd like
    like_same (binding o bound body) id at like there = absurd like
    like_same (universal o first sorts body) id at like there = absurd like
    like_same (existential o first sorts body) id at like there = absurd like

    parts_same : (ts : Terms) (ids others : List TermId) → AreLike nodes ts ids → AreTermsAt other [] ts others → same_parts (λ i. is_same_tree nodes i other.nodes) ids others ≡ true
    parts_same none [] [] all there = refl
    parts_same none [] (o ∷ others) all there = absurd there
    parts_same none (i ∷ ids) others all there = absurd all
    parts_same (more t ts) [] others all there = absurd all
    parts_same (more t ts) (i ∷ ids) [] all there = absurd there
    parts_same (more t ts) (i ∷ ids) (o ∷ others) all there = both _ _ (like_same t i.0 o.0 all.0 there.0) (parts_same ts ids others all.1 there.1)
