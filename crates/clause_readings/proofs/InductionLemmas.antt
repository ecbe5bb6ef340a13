-- Induction over terms of two arenas that match.
use Rattle.std.proofs.Common.{◌≡◌, ℕ, zero, suc, ◌<◌, List, [], ◌∷◌, true, refl, ap, ◌∙◌, arith, map}
use Rattle.std.specs.Prelude.{slice_get, Some, nat_lt}
use Rattle.std.specs.List.{list_all}
use Rattle.term_tree.specs.declared.node.TermId.{TermId}
use Rattle.term_tree.specs.declared.node.Node.{Node}
use Rattle.term_tree.specs.declared.node.Node.TheVariants.{Num, True, False, Var, LetVar, Pred, Op, Divisible, Let, Forall, Exists}
use Rattle.term_tree.specs.Arena.{IsArena, is_below, has_parts_below}
use Rattle.term_tree.proofs.Public.{arena_below, below_from, both_true}
use Rattle.clause_readings.specs.Matching.{AreMatched, IsNodeLike, AreNodesLike}

-- what holds of parts holds of them besides
abbrev pub With : (ℕ → ℕ → Type 0) → (ℕ → ℕ → Type 0) → ℕ → ℕ → Type 0
With matched holds a b = matched a b × holds a b

module _ (matched holds : ℕ → ℕ → Type 0) (n : ℕ) (told : (c d : ℕ) → c < n → matched c d → holds c d) where
  one_more : (id other : TermId) → nat_lt id.0 n ≡ true → matched id.0 other.0 → With matched holds id.0 other.0
  one_more id other below h = (h, told id.0 other.0 (below_from id.0 n below) h)

  all_more : (ids others : List TermId) → list_all (is_below n) ids ≡ true → AreMatched matched ids others → AreMatched (With matched holds) ids others
  all_more [] [] below h = tt
  all_more [] (other ∷ others) below h = absurd h
  all_more (id ∷ ids) [] below h = absurd h
  all_more (id ∷ ids) (other ∷ others) below h =
      let both = both_true (nat_lt id.0 n) (list_all (is_below n) ids) below in (one_more id other both.0 h.0, all_more ids others both.1 h.1)

  node_more : (node other : Node) → has_parts_below n node ≡ true → IsNodeLike matched node other → IsNodeLike (With matched holds) node other
  node_more (Num k) other below h = h
  node_more True other below h = h
  node_more False other below h = h
  node_more (Var binder sort) other below h = h
  node_more (LetVar bound) other below h = (h.0, h.1, one_more bound h.0 below h.2)
  node_more (Pred pred args) other below h = (h.0, h.1, all_more args h.0 below h.2)
  node_more (Op op args) other below h = (h.0, h.1, all_more args h.0 below h.2)
  node_more (Divisible by arg) other below h = (h.0, h.1, one_more arg h.0 below h.2)
  node_more (Let bound body) other below h =
      let both = both_true (list_all (is_below n) bound) (nat_lt body.0 n) below in (h.0, h.1, h.2, all_more bound h.0 both.0 h.3, one_more body h.1 both.1 h.4)
  node_more (Forall first sorts body) other below h = (h.0, h.1, one_more body h.0 below h.2)
  node_more (Exists first sorts body) other below h = (h.0, h.1, one_more body h.0 below h.2)

module _ (nodes others : List Node) (matched holds : ℕ → ℕ → Type 0) (arena : IsArena nodes) (other_arena : IsArena others) (like : AreNodesLike nodes others matched) where
  abbrev pub Step : Type 0
  Step = (a b : ℕ) (node other : Node) → matched a b → slice_get nodes a ≡ Some node → slice_get others b ≡ Some other → has_parts_below a node ≡ true → has_parts_below b other ≡ true
      → IsNodeLike (With matched holds) node other → holds a b

  below_two : Step → (bound a b : ℕ) → a < bound → matched a b → holds a b
  below_two step zero a b within h = absurd (omega arith)
  below_two step (suc bound) a b within h =
      let found = like a b h in
      let below : has_parts_below a found.0 ≡ true = arena_below nodes a found.0 arena found.2 in
      step a b found.0 found.1 h found.2 found.3 below (arena_below others b found.1 other_arena found.3)
      (node_more matched holds a (λ c d less is. below_two step bound c d (omega arith) is) found.0 found.1 below found.4)

  -- what holds of two terms that match, where it holds of their parts
  pub by_two : Step → (a b : ℕ) → matched a b → holds a b
  by_two step a b h = below_two step (suc a) a b (omega arith) h

-- what is told of parts is the same, where it is of each
pub same_map_by : {X : Type 0} (f g : ℕ → X) (holds : ℕ → ℕ → Type 0) → ((c d : ℕ) → holds c d → f c ≡ g d) → (ids others : List TermId) → AreMatched holds ids others
    → map (λ (id : TermId). f id.0) ids ≡ map (λ (id : TermId). g id.0) others
same_map_by f g holds same [] [] h = refl
same_map_by f g holds same [] (other ∷ others) h = absurd h
same_map_by f g holds same (id ∷ ids) [] h = absurd h
same_map_by {X} f g holds same (id ∷ ids) (other ∷ others) h =
    ap (λ (x : X). x ∷ map (λ (i : TermId). f i.0) ids) (same id.0 other.0 h.0) ∙ ap (λ (xs : List X). g other.0 ∷ xs) (same_map_by f g holds same ids others h.1)

pub same_map : {X : Type 0} (f g : ℕ → X) (matched : ℕ → ℕ → Type 0) (ids others : List TermId) → AreMatched (With matched (λ c d. f c ≡ g d)) ids others
    → map (λ (id : TermId). f id.0) ids ≡ map (λ (id : TermId). g id.0) others
same_map f g matched ids others h = same_map_by f g (With matched (λ c d. f c ≡ g d)) (λ c d both. both.1) ids others h
